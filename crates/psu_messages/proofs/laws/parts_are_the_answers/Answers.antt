use Rattle.psu_messages.proofs.Joining.{makes}
use Rattle.psu_messages.proofs.laws.parts_are_the_answers.Goals as goal

pub returns : goal.returns
returns c = λ answers sent text m. (makes answers sent text m).0
