-- The invariant of RQS.
use Rattle.std.specs.Prelude.{◌≡◌, ℕ, ◌==◌, true, false, List, [], ◌∷◌, ⊤}
use Rattle.psu_status.specs.Status.{Reported, enabled}
use Rattle.psu_nv.specs.Contents.{Contents}
use Rattle.psu_exec.specs.declared.service_states.ServiceState.{ServiceState}
use Rattle.psu_exec.specs.Device.{State, power_on}
use Rattle.psu_exec.specs.Calls.{Entry, Allows}

-- RQS is set only while an enabled bit of its session is set
abbrev pub IsBacked : Reported → ServiceState → Type 0
IsBacked status m = m.rqs ≡ true → (enabled status m.available == 0) ≡ false

abbrev pub AreBacked : Reported → List ServiceState → Type 0
AreBacked status [] = ⊤
AreBacked status (m ∷ service_states) = IsBacked status m × AreBacked status service_states

-- each call preserves this, and a power-on establishes it
abbrev pub EachRqsStaysBacked : Type 0
EachRqsStaysBacked = (s new : State) (entry : Entry) → Allows s entry new → AreBacked s.volatile.instrument.status s.volatile.service_states → AreBacked new.volatile.instrument.status new.volatile.service_states

abbrev pub RqsStartsBacked : Type 0
RqsStartsBacked = (limit : ℕ) (contents : Contents) → AreBacked (power_on limit contents).volatile.instrument.status (power_on limit contents).volatile.service_states
