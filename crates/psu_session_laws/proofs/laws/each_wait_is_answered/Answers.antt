use Rattle.psu_session_laws.proofs.Requests.{one_waits}
use Rattle.psu_session_laws.proofs.Waits.{answered_once, wait_is_known}
use Rattle.psu_session_laws.proofs.laws.each_wait_is_answered.Goals as goal

pub returns-clause-known : goal.returns-clause-known
returns-clause-known c = wait_is_known

pub returns-clause-once : goal.returns-clause-once
returns-clause-once c = answered_once

pub returns-clause-one : goal.returns-clause-one
returns-clause-one c = one_waits
