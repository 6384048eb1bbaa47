use Rattle.psu_outputs.proofs.Trips.{cause, switches_off, tripped_stays}
use Rattle.psu_outputs.proofs.laws.each_trip_has_its_cause.Goals as goal

pub returns-clause-cause : goal.returns-clause-cause
returns-clause-cause c = λ supplies change output are settled ok. cause supplies are.0 settled change output ok

pub returns-clause-off : goal.returns-clause-off
returns-clause-off c = λ supplies change output are settled ok. switches_off supplies are.0 settled change output ok

pub returns-clause-stay : goal.returns-clause-stay
returns-clause-stay c = λ supplies change output are settled ok. tripped_stays supplies are.0 settled change output ok
