use Rattle.psu_nv.proofs.Edits.{edited_map}
use Rattle.psu_nv.proofs.laws.edits_of_parts_make_the_map.Goals as goal

pub returns : goal.returns
returns c = edited_map
