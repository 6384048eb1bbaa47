use Rattle.psu_hislip.proofs.Runs.{run_answers}
use Rattle.psu_hislip.proofs.laws.one_answer_for_each_message.Goals as goal

pub returns : goal.returns
returns c = λ core run e. run_answers core run e
