use Rattle.psu_session_laws.proofs.SomeExchange.{its_end, some_exchange}
use Rattle.psu_session_laws.proofs.laws.a_session_that_is_answered.Goals as goal

pub returns-clause-is : goal.returns-clause-is
returns-clause-is c = some_exchange

pub returns-clause-over : goal.returns-clause-over
returns-clause-over c = its_end
