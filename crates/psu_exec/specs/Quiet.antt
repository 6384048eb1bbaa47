-- What causes nothing for other sessions and for the flusher.
use Rattle.std.specs.Prelude.{◌≡◌, ℕ, Bool, true, false, List}
use Rattle.psu_instrument.specs.Speaking.{RaisesNone}
use Rattle.psu_tree.specs.declared.command.Request.{Request}
use Rattle.psu_exec.specs.ServiceStates.{unreported_from}
use Rattle.psu_exec.specs.Device.{Reply, Done, Answer, Error, Expand, Parked, Held, Later, State}
use Rattle.psu_exec.specs.Calls.{Allows, Cleared, Delivered, Due, Entry, Executed, Fetched, Informed, Queried, Settled, has_work}

-- the open sessions with a service request that is not yet reported
abbrev pub requesting : State → List ℕ
requesting s = unreported_from 1 s.volatile.open_now s.volatile.service_states

-- No enabled bit has risen, no session has a new service request, and there is nothing new to flush: the notifications
-- are those before.
pub record IsQuiet (s new : State) : Type 0 where
  pub bits : RaisesNone s.volatile.instrument.status new.volatile.instrument.status
  pub requests : requesting new ≡ requesting s
  pub work : has_work new.flush ≡ has_work s.flush

-- whether a unit, or the end of a wait, with this reply may cause something for others
abbrev pub may_cause : Reply → Bool
may_cause Done = true
may_cause (Error e) = true
may_cause (Answer text) = false
may_cause (Expand text) = false
may_cause Parked = false
may_cause Held = false
may_cause Later = false

-- so it is after each unit, and each settle, that may cause nothing
abbrev pub EachUnitIsQuiet : Type 0
EachUnitIsQuiet = (s new : State) (session : ℕ) (request : Request) (reply : Reply) → may_cause reply ≡ false → Allows s (Executed session request reply) new → IsQuiet s new

abbrev pub EachWaitIsQuiet : Type 0
EachWaitIsQuiet = (s new : State) (session : ℕ) (reply : Reply) → may_cause reply ≡ false → Allows s (Settled session reply) new → IsQuiet s new

-- whether a call causes nothing for others, whatever the state is: it drops a wait, notes that a response is delivered, or
-- only asks
abbrev pub is_quiet : Entry → Bool
is_quiet (Cleared session) = true
is_quiet (Delivered session) = true
is_quiet (Queried session byte) = true
is_quiet (Fetched session byte) = true
is_quiet (Informed info) = true
is_quiet (Due deadline) = true
is_quiet entry = false

abbrev pub EachQuietCallIsQuiet : Type 0
EachQuietCallIsQuiet = (s new : State) (entry : Entry) → is_quiet entry ≡ true → Allows s entry new → IsQuiet s new
