use Rattle.psu_outputs.proofs.Trips.{each_cleared, once}
use Rattle.psu_outputs.proofs.laws.each_trip_is_once.Goals as goal

pub returns-clause-cleared : goal.returns-clause-cleared
returns-clause-cleared c = λ supplies changes output are settled ok. each_cleared supplies changes output are.0 settled ok

pub returns-clause-once : goal.returns-clause-once
returns-clause-once c = λ supplies changes output are settled ok. once supplies changes output are.0 settled ok
