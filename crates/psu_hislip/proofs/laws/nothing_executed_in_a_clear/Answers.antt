use Rattle.psu_hislip.proofs.Clears.{none_in_a_clear}
use Rattle.psu_hislip.proofs.laws.nothing_executed_in_a_clear.Goals as goal

pub returns : goal.returns
returns c = λ session before between clear b no none. none_in_a_clear session before clear between b no none
