use Rattle.psu_session_laws.proofs.Writes as writes
use Rattle.psu_session_laws.proofs.laws.each_take_is_written.Goals as goal

pub returns-clause-known : goal.returns-clause-known
returns-clause-known c = writes.writer_is_known

pub returns-clause-written : goal.returns-clause-written
returns-clause-written c = writes.each_take_is_written
