use Rattle.std.proofs.Common.{◌≡◌, ◌++◌, map, take, drop}
use Rattle.psu_exec.specs.ServiceStates.{rqs_updated_by}
use Rattle.psu_exec.proofs.service_states.follow_each.Given as goal

abbrev pub invariant-loop-i : goal.invariant-loop-i
invariant-loop-i l = l.service_states ≡ map (rqs_updated_by l.old l.new) (take l.i l.initial.service_states) ++ drop l.i l.initial.service_states
