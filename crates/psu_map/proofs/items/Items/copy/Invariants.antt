use Rattle.std.proofs.Common.{◌≡◌, take}
use Rattle.psu_map.proofs.items.Items.copy.Given as goal

abbrev pub invariant-loop-pair : goal.invariant-loop-pair
invariant-loop-pair g l = l.pairs.items ≡ take l.pair-index l.pair-items
