use Rattle.psu_nv.proofs.Parts.{items_sorted}
use Rattle.psu_nv.proofs.Gets.{part_found}
use Rattle.psu_nv.proofs.Kept.{contents_keys}
use Rattle.psu_nv.proofs.laws.parts_are_the_whole.Goals as goal

pub returns-clause-each : goal.returns-clause-each
returns-clause-each c = part_found

pub returns-clause-keys : goal.returns-clause-keys
returns-clause-keys c = contents_keys

pub returns-clause-sorted : goal.returns-clause-sorted
returns-clause-sorted c = λ kept is. items_sorted kept is.sorted
