use Rattle.psu_messages.proofs.Answering.{taken}
use Rattle.psu_messages.proofs.laws.calls_are_one_execution.Goals as goal

pub returns : goal.returns
returns c = taken
