use Rattle.std.proofs.Common.{◌≡◌, take}
use Rattle.psu_map.proofs.batch.Batch.copy.Given as goal

abbrev pub invariant-loop-edit : goal.invariant-loop-edit
invariant-loop-edit g l = l.edits.items ≡ take l.edit-index l.edit-items
