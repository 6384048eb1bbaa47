-- The service state of a session: its status byte, and when it requests service.
-- Sources: IEEE 488.2, chapter 11 (message available, request for service); IVI-6.1 (HiSLIP), status query and
-- service request.
use Rattle.std.specs.Prelude.{ℕ, suc, ◌==◌, ◌&&◌, not, Bool, true, false, if◌then◌else◌, Option, Some, None, List, [], ◌∷◌, ◌++◌}
use Rattle.psu_status.specs.Registers.{rising}
use Rattle.psu_status.specs.Status.{Reported, enabled, polled}
use Rattle.psu_exec.specs.declared.service_states.Enabled.{Enabled}
use Rattle.psu_exec.specs.declared.service_states.ServiceState.{ServiceState}

-- ---- RQS of a session whose enabled bits were old and are new

-- whether an enabled bit is 1 that was 0
abbrev pub rises : ℕ → ℕ → Bool
rises old new = not (rising old new == 0)

-- whether no enabled bit is 1, and one was
abbrev pub falls : ℕ → ℕ → Bool
falls old new = new == 0 && not (old == 0)

-- a request for service; if RQS is set already, nothing changes
abbrev pub requested : ServiceState → ServiceState
requested m = if m.rqs then m else record m { rqs = true; unfetched = true; unreported = true }

abbrev pub released : ServiceState → ServiceState
released m = record m { rqs = false }

abbrev pub rqs_updated : ℕ → ℕ → ServiceState → ServiceState
rqs_updated old new m = if rises old new then requested m else (if falls old new then released m else m)

-- the service state of each session after a step, by the status and the service states before it and after it
abbrev pub each_rqs_updated : Reported → Reported → List ServiceState → List ServiceState → List ServiceState
each_rqs_updated old new before [] = []
each_rqs_updated old new [] (m ∷ service_states) = m ∷ service_states
each_rqs_updated old new (b ∷ before) (m ∷ service_states) = rqs_updated (enabled old b.available) (enabled new m.available) m ∷ each_rqs_updated old new before service_states

-- the enabled bits of a session that has read its responses, and of one that has not
abbrev pub enabled_of : Reported → Enabled
enabled_of status = record { read = enabled status false; unread = enabled status true }

abbrev pub bits_of : Enabled → Bool → ℕ
bits_of e false = e.read
bits_of e true = e.unread

-- the service state of a session after a change of the status alone
abbrev pub rqs_updated_by : Enabled → Enabled → ServiceState → ServiceState
rqs_updated_by old new m = rqs_updated (bits_of old m.available) (bits_of new m.available) m

-- ---- the service state of one session

-- no response was sent, and no service requested
abbrev pub initial_service_state : ServiceState
initial_service_state = record { available = false; rqs = false; unfetched = false; unreported = false }

-- the service state of a session that opens: RQS is set if an enabled bit is set
abbrev pub opened_service_state : Reported → ServiceState
opened_service_state status = rqs_updated 0 (enabled status false) initial_service_state

abbrev pub with_available : ServiceState → Bool → ServiceState
with_available m available = record m { available = available }

-- the status byte as a status query returns it: with RQS in bit 6
abbrev pub shown : Reported → ServiceState → ℕ
shown status m = polled status m.available m.rqs

-- the service request that is fetched: the status byte as it is then, with bit 6 set
abbrev pub request_of : Reported → ServiceState → Option ℕ
request_of status m = if m.unfetched then Some (polled status m.available true) else None

abbrev pub fetched : ServiceState → ServiceState
fetched m = record m { unfetched = false }

-- ---- the sessions that are reported

abbrev pub named : ℕ → Bool → List ℕ
named n b = if b then n ∷ [] else []

-- the numbers of the open sessions that requested service since the last report; the first place is that of number n
abbrev pub unreported_from : ℕ → List Bool → List ServiceState → List ℕ
unreported_from n [] service_states = []
unreported_from n (b ∷ open_now) [] = []
unreported_from n (b ∷ open_now) (m ∷ service_states) = named n (b && m.unreported) ++ unreported_from (suc n) open_now service_states

abbrev pub reported : ServiceState → ServiceState
reported m = record m { unreported = false }
