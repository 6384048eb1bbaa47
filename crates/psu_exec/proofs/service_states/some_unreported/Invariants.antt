use Rattle.std.proofs.Common.{◌≡◌, ◌<◌, ℕ, false, get_or}
use Rattle.psu_exec.specs.ServiceStates.{initial_service_state}
use Rattle.psu_exec.proofs.service_states.some_unreported.Given as goal

abbrev pub invariant-loop-i : goal.invariant-loop-i
invariant-loop-i l = l.some ≡ false → (i : ℕ) → i < l.i → (get_or l.service_states i initial_service_state).unreported ≡ false
