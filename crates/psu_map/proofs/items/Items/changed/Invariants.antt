use Rattle.std.proofs.Common.{◌≡◌, drop}
use Rattle.psu_map.specs.Batch.{changed}
use Rattle.psu_map.proofs.items.Items.changed.Given as goal

abbrev pub invariant-loop-edit : goal.invariant-loop-edit
invariant-loop-edit g l = changed l.map (drop l.edit-index l.edit-items) ≡ changed l.self l.edit-items
