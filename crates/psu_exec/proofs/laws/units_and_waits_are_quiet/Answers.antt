use Rattle.psu_exec.proofs.Quiet.{each_unit_is_quiet, each_wait_is_quiet}
use Rattle.psu_exec.proofs.laws.units_and_waits_are_quiet.Goals as goal

pub returns-clause-units : goal.returns-clause-units
returns-clause-units c = each_unit_is_quiet

pub returns-clause-waits : goal.returns-clause-waits
returns-clause-waits c = each_wait_is_quiet
