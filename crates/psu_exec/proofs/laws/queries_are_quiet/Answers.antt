use Rattle.psu_exec.proofs.Quiet.{each_quiet_call_is_quiet}
use Rattle.psu_exec.proofs.laws.queries_are_quiet.Goals as goal

pub returns : goal.returns
returns c = each_quiet_call_is_quiet
