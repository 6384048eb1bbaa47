use Rattle.std.proofs.Common.{◌≡◌, [], drop, map}
use Rattle.psu_tree.specs.Headers.{fits}
use Rattle.psu_tree.specs.Shown.{mnemonic}
use Rattle.psu_tree.proofs.walks.may_miss_all.Given as goal

abbrev pub invariant-loop-node : goal.invariant-loop-node
invariant-loop-node l = fits (map mnemonic (drop l.node-index l.nodes)) [] ≡ fits (map mnemonic l.nodes) []
