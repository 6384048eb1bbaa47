use Rattle.std.proofs.Common.{◌≡◌, ◌≤◌, ◌++◌, drop, length, map, take}
use Rattle.psu_exec.specs.ServiceStates.{reported, unreported_from}
use Rattle.psu_exec.proofs.service_states.take_unreported.Given as goal

abbrev pub invariant-loop-i : goal.invariant-loop-i
invariant-loop-i l = record {
  requesting : l.requesting ≡ unreported_from 1 (take l.i l.open_now) (take l.i l.initial.service_states);
  room : length l.requesting ≤ l.i;
  reported : l.service_states ≡ map reported (take l.i l.initial.service_states) ++ drop l.i l.initial.service_states;
}
