use Rattle.psu_map.proofs.Maps.{all_made}
use Rattle.psu_map.proofs.items.Items.changed.Goals as goal

pub returns-clause-assigns : goal.returns-clause-assigns
returns-clause-assigns g c = all_made _ _ _ _ _ c.edits-edit-items.ensures c.loop-edit-test.false c.loop-edit.invariant
