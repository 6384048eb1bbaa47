use Rattle.psu_nv.proofs.Determining.{same_contents}
use Rattle.psu_nv.proofs.laws.items_determine_contents.Goals as goal

pub returns : goal.returns
returns c = same_contents
