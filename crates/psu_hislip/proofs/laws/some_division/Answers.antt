use Rattle.psu_hislip.proofs.Exists.{some_messages}
use Rattle.psu_hislip.proofs.laws.some_division.Goals as goal

pub returns : goal.returns
returns c = λ stream bytes. some_messages stream bytes
