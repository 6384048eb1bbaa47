use Rattle.psu_messages.proofs.Joining.{responds}
use Rattle.psu_messages.proofs.laws.parts_are_the_response.Goals as goal

pub returns : goal.returns
returns c = responds
