use Rattle.std.proofs.Common.{◌≡◌, ◌++◌, take}
use Rattle.std.specs.List.{flat_map}
use Rattle.psu_exec.specs.Batch.{removal}
use Rattle.psu_exec.proofs.leading.behind_removals.Given as goal

abbrev pub invariant-loop-pair : goal.invariant-loop-pair
invariant-loop-pair g l = l.edits ≡ flat_map (removal l.target) (take l.pair-index l.pairs) ++ l.rest
