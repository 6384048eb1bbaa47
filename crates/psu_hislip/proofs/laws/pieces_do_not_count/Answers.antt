use Rattle.psu_hislip.proofs.Divisions.{same_messages}
use Rattle.psu_hislip.proofs.laws.pieces_do_not_count.Goals as goal

pub returns : goal.returns
returns c = λ first second stream given others f g. same_messages stream given others f.0 g.0
