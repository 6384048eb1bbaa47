use Rattle.psu_session.proofs.Stepping.{steps_on}
use Rattle.psu_session_laws.proofs.laws.histories_extend.Goals as goal

pub returns : goal.returns
returns c = λ start history s done t is_history steps. steps_on is_history steps
