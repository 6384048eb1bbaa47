use Rattle.psu_exec.specs.Device.{power_on}
use Rattle.psu_exec.proofs.Backed.{fresh_backed, stays_backed}
use Rattle.psu_exec.proofs.laws.rqs_has_a_reason.Goals as goal

pub returns-clause-each : goal.returns-clause-each
returns-clause-each c = stays_backed

pub returns-clause-start : goal.returns-clause-start
returns-clause-start c limit contents = fresh_backed (power_on limit contents).volatile.instrument.status 16
