use Rattle.psu_hislip.proofs.Divisions.{same_messages}
use Rattle.psu_hislip.proofs.laws.one_division.Goals as goal

pub returns : goal.returns
returns c = λ stream messages others s t. same_messages stream messages others s t
