-- The steps of a session from one state to another, with the events of each. Source: IVI-6.1 (what a message requests
-- is done; a response has the MessageID of its transmission, and a device clear discards it) and IEEE 488.2, 6
-- (messages are executed in the order of their arrival).
use Rattle.std.specs.Prelude.{◌≡◌, ◌⊎◌, ℕ, ◌-◌, Bool, true, false, Option, Some, None, Result, Ok, List, [], ◌∷◌, ◌++◌, map, flat_map}
use Rattle.psu_locks.specs.declared.results.Freed.{Freed}
use Rattle.psu_locks.specs.declared.results.Grant.{Grant}
use Rattle.psu_locks.specs.declared.results.Info.{Info}
use Rattle.psu_locks.specs.declared.requests.Kind.{Kind}
use Rattle.psu_locks.specs.declared.results.LockRefusal.{LockRefusal}
use Rattle.psu_hislip.specs.Action.{Act}
use Rattle.psu_hislip.specs.Answer.{answer_size}
use Rattle.psu_hislip.specs.Channel.{Awaited, Fed}
use Rattle.psu_hislip.specs.Core.{IsCurrent, outcome_of}
use Rattle.psu_hislip.specs.Frame.{header_of}
use Rattle.psu_hislip.specs.Header.{header_bytes}
use Rattle.psu_hislip.specs.LockResponses.{lock_answer, lock_info_response, lock_response}
use Rattle.psu_hislip.specs.Stream.{Received}
use Rattle.psu_hislip.specs.declared.header.Header.{Header}
use Rattle.psu_hislip.specs.declared.lock_responses.LockResponse.TheVariants.{Error}
use Rattle.psu_hislip.specs.declared.message_type.MessageType.TheVariants.{AsyncStatusResponse}
use Rattle.psu_hislip.specs.declared.action.Origin.{Origin}
use Rattle.psu_hislip.specs.declared.side.Side.{Side}
use Rattle.psu_hislip.specs.declared.side.Side.TheVariants.{Sync, Async}
use Rattle.psu_session.specs.Locking.{kind_of}
use Rattle.psu_session.specs.Numbers.{clears, number_on, parameter}
use Rattle.psu_messages.specs.Executions.{Reaches, Progress, IsOver, beginning}
use Rattle.psu_messages.specs.Effects.{Effect}
use Rattle.psu_session.specs.Orders.{Done, IsFramed, Order, effects, frames, order_in}
use Rattle.psu_session.specs.Credit.{cost, cost_of}
use Rattle.psu_session.specs.Events.{Delivered, Queried, Informed, Locked, Cleared, Event, BytesReceived, LockGranted, ServiceRequested, LockReleased, Came, DeviceCalled, Put, Did, Took, Wrote, waits_after}
use Rattle.psu_session.specs.State.{Running, Release, Start, SessionState, Work, Execute, ReleaseLock, added, channel_of, fresh, numbered, output, settled, with_channel, with_core, with_held, with_output, with_owed, with_work, with_writes, writes}

-- ---- what a message requests

-- a message without payload is appended to the output of the asynchronous connection
abbrev pub puts : Header → List Event
puts header = Put Async (header_bytes header) ∷ []

abbrev pub puts_any : Option Header → List Event
puts_any None = []
puts_any (Some header) = puts header

abbrev pub delivers : Bool → List Event
delivers true = DeviceCalled Delivered ∷ []
delivers false = []

-- a status query is answered by the status byte that the device replied
abbrev pub IsQueried : Bool → List Event → Type 0
IsQueried delivered done = (byte : ℕ) × (done ≡ delivers delivered ++ (DeviceCalled (Queried byte) ∷ puts (header_of AsyncStatusResponse byte 0 0)))

-- A lock request is answered with its result; one that waits is not answered yet. While a request waits another one is
-- refused, and so is a string that no lock has.
abbrev pub IsLocked : Bool → ℕ → Option Kind → List Event → Type 0
IsLocked true timeout kind done = done ≡ puts (lock_answer Error)
IsLocked false timeout None done = done ≡ puts (lock_answer Error)
IsLocked false timeout (Some kind) done = (reply : Result Grant LockRefusal) × (done ≡ DeviceCalled (Locked kind timeout reply) ∷ puts_any (lock_response reply))

abbrev pub IsInformed : List Event → Type 0
IsInformed done = (info : Info) × (done ≡ DeviceCalled (Informed info) ∷ puts (lock_info_response info))

-- the events of an action of a message, where a lock request waits or none does; a transmission or a release is queued
abbrev pub Does : Bool → Act → List Event → Type 0
Does waits (Act.Send side frames) done = done ≡ Put side frames ∷ []
Does waits (Act.Execute origin bytes) done = done ≡ []
Does waits (Act.TooMuch origin) done = done ≡ []
Does waits (Act.Trigger origin) done = done ≡ []
Does waits Act.Delivered done = done ≡ DeviceCalled Delivered ∷ []
Does waits (Act.Status delivered) done = IsQueried delivered done
Does waits (Act.Lock timeout string) done = IsLocked waits timeout (kind_of string) done
Does waits Act.Release done = done ≡ []
Does waits Act.Info done = IsInformed done
Does waits Act.Clear done = done ≡ DeviceCalled Cleared ∷ []
Does waits Act.Closed done = done ≡ []

-- the events of all actions of a message, each once and in order
abbrev pub Each : Bool → List Act → List Event → Type 0
Each waits [] done = done ≡ []
Each waits (act ∷ acts) done = (first : List Event) × (more : List Event) × (done ≡ first ++ more) × Does waits act first × Each (waits_after waits first) acts more

-- the transmission that an action queues
abbrev pub works_in : Act → List Work
works_in act = map Execute (order_in act)

-- the release that an action requests, to be done after the message of a number
abbrev pub release_in : ℕ → ℕ → Act → List Release
release_in now number Act.Release = record { number = number; requested_at = now } ∷ []
release_in now number act = []

-- The transmissions of a message are queued after what was received before, and after them the releases that have
-- waited for this message; at a device clear all releases are queued.
abbrev pub arrived : ℕ → Side → Received → List Act → SessionState → List Event → SessionState
arrived now side message acts s immediate =
    settled (clears acts) now (numbered (added s (flat_map works_in acts) (flat_map (release_in now (parameter message)) acts) immediate) (number_on side message))

-- A message is passed to the core at a time in milliseconds, and what it requests is done or queued.
pub record IsMessageReceived (now : ℕ) (side : Side) (message : Received) (s : SessionState) (done : List Event) (t : SessionState) : Type 0 where
  pub immediate : List Event
  pub each : Each s.lock_waits (outcome_of s.core side message).actions immediate
  pub are : done ≡ Came side message ∷ immediate
  pub then : t ≡ arrived now side message (outcome_of s.core side message).actions (with_core s (outcome_of s.core side message).core) immediate

-- messages, one after another
abbrev pub EachReceived : ℕ → Side → List Received → SessionState → List Event → SessionState → Type 0
EachReceived now side [] s done t = (done ≡ []) × (t ≡ s)
EachReceived now side (message ∷ messages) s done t =
    (mid : SessionState) × (first : List Event) × (more : List Event) × (done ≡ first ++ more) × IsMessageReceived now side message s first mid × EachReceived now side messages mid more t

-- a channel returns the messages that the next bytes of its stream complete
abbrev pub Feeds : Awaited → List ℕ → List Received → Awaited → Type 0
Feeds old received_bytes messages new = (stream : List ℕ) (given : List Received) → Fed old stream given → Fed new (stream ++ received_bytes) (given ++ messages)

-- The next bytes of a channel's stream are received, with the messages that they complete.
pub record IsReceived (now : ℕ) (side : Side) (received_bytes : List ℕ) (s : SessionState) (done : List Event) (t : SessionState) : Type 0 where
  pub messages : List Received
  pub channel : Awaited
  pub feeds : Feeds (channel_of side s) received_bytes messages channel
  pub immediate : List Event
  pub are : done ≡ BytesReceived side received_bytes ∷ immediate
  pub each : EachReceived now side messages (with_channel side s channel) immediate t

-- time passes
pub record IsTicked (now : ℕ) (s : SessionState) (done : List Event) (t : SessionState) : Type 0 where
  pub are : done ≡ []
  pub then : t ≡ settled false now s

-- ---- notifications

abbrev pub granted : Bool → Option Header → Grant → List Event
granted false header grant = []
granted true None grant = []
granted true (Some header) grant = LockGranted grant ∷ []

-- A lock request that waits has a result. Where none waits, or the request still waits, nothing is done.
abbrev pub IsLockGranted : Bool → Grant → List Event → Type 0
IsLockGranted waits grant done = done ≡ granted waits (lock_response (Ok grant)) grant

-- a service request is sent if the device has one, with the status byte that it returns
abbrev pub IsServiceRequested : List Event → Type 0
IsServiceRequested done = (request : Option ℕ) × (done ≡ ServiceRequested request ∷ [])

-- what other sessions cause is reported on the asynchronous connection
pub record IsNotified (s : SessionState) (done : List Event) (t : SessionState) : Type 0 where
  pub is : ((grant : Grant) × IsLockGranted s.lock_waits grant done) ⊎ IsServiceRequested done
  pub then : t ≡ added s [] [] done

-- ---- transmissions

abbrev pub running : Order → Progress → Running
running order progress = record { order = order; progress = progress }

abbrev pub happened : Origin → List Done → List Event
happened origin done = map (λ d. Did origin d.effect d.frames) done

-- the frames of each effect are those of its piece of a response
abbrev pub AreFramed : ℕ → ℕ → List Done → Type 0
AreFramed size id [] = Unit {0}
AreFramed size id (d ∷ done) = IsFramed size id d.effect d.frames × AreFramed size id done

-- the first transmission of the queue begins
pub record IsBegun (s : SessionState) (done : List Event) (t : SessionState) : Type 0 where
  pub order : Order
  pub later : List Work
  pub none : s.running ≡ None
  pub first : s.waiting ≡ Execute order ∷ later
  pub are : done ≡ []
  pub then : t ≡ with_work s later (Some (running order beginning))

-- a lock is released, once all that is queued before is done; the reply of the device is the response
pub record IsLockReleased (s : SessionState) (done : List Event) (t : SessionState) : Type 0 where
  pub later : List Work
  pub none : s.running ≡ None
  pub first : s.waiting ≡ ReleaseLock ∷ later
  pub reply : Result Freed LockRefusal
  pub are : done ≡ LockReleased reply ∷ []
  pub then : t ≡ added (with_owed (with_work s later None) (s.owed - cost 0)) [] [] done

-- Effects advance the transmission in execution. Nothing has ended it, and its responses are framed for the message
-- size that the client accepts.
pub record IsWorked (s : SessionState) (done : List Event) (t : SessionState) : Type 0 where
  pub order : Order
  pub progress : Progress
  pub new : Progress
  pub effects_done : List Done
  pub is : s.running ≡ Some (running order progress)
  pub current : IsCurrent s.core order.origin
  pub reaches : (before : List Effect) → Reaches order.source before progress → Reaches order.source (before ++ effects effects_done) new
  pub framed : AreFramed (answer_size s.core.size) order.origin.id effects_done
  pub are : done ≡ happened order.origin effects_done
  pub then : t ≡ with_output Sync (with_work s s.waiting (Some (running order new))) (s.sync ++ frames effects_done)

-- the transmission in execution is over, or a device clear or a FatalError has ended it
pub record IsEnded (s : SessionState) (done : List Event) (t : SessionState) : Type 0 where
  pub order : Order
  pub progress : Progress
  pub is : s.running ≡ Some (running order progress)
  pub ended : IsOver order.source progress ⊎ (IsCurrent s.core order.origin → ⊥)
  pub are : done ≡ []
  pub then : t ≡ with_held (with_work s s.waiting None) (s.held - cost_of order)

-- ---- the output

-- All bytes of the output of a connection are taken. No thread wrote there, and the thread that takes them writes them.
pub record IsTaken (side : Side) (bytes : List ℕ) (s : SessionState) (done : List Event) (t : SessionState) : Type 0 where
  pub free : writes side s ≡ false
  pub all : output side s ≡ bytes
  pub some : bytes ≡ [] → ⊥
  pub are : done ≡ Took side bytes ∷ []
  pub then : t ≡ with_writes side (with_output side s []) true

-- the bytes that were taken for a connection are written, by the thread that writes there
pub record IsWritten (side : Side) (s : SessionState) (done : List Event) (t : SessionState) : Type 0 where
  pub was : writes side s ≡ true
  pub are : done ≡ Wrote side ∷ []
  pub then : t ≡ with_writes side s false

-- ---- a session

pub data SessionStep (s : SessionState) (done : List Event) (t : SessionState) : Type 0 where
  Receives : (now : ℕ) (side : Side) (received_bytes : List ℕ) → IsReceived now side received_bytes s done t → SessionStep s done t
  Notifies : IsNotified s done t → SessionStep s done t
  Ticks : (now : ℕ) → IsTicked now s done t → SessionStep s done t
  Begins : IsBegun s done t → SessionStep s done t
  Works : IsWorked s done t → SessionStep s done t
  ReleasesLock : IsLockReleased s done t → SessionStep s done t
  Ends : IsEnded s done t → SessionStep s done t
  Takes : (side : Side) (bytes : List ℕ) → IsTaken side bytes s done t → SessionStep s done t
  Writes : (side : Side) → IsWritten side s done t → SessionStep s done t

-- steps one after another
pub data Steps (s : SessionState) : List Event → SessionState → Type 0 where
  Still : Steps s [] s
  Then : {done : List Event} {t : SessionState} → Steps s done t → (more : List Event) (u : SessionState) → SessionStep t more u → Steps s (done ++ more) u

-- the events of a session since it began, and the state to which they lead
abbrev pub IsHistory : Start → List Event → SessionState → Type 0
IsHistory start history s = Steps (fresh start) history s

-- the synchronous channel has returned one message, and the asynchronous one none
abbrev pub IsOpening : Start → Type 0
IsOpening start = ((stream : List ℕ) × (first : Received) × Fed start.sync stream (first ∷ [])) × Fed start.async [] []

-- a history leads to this state
abbrev pub IsReachable : SessionState → Type 0
IsReachable s = (start : Start) × (history : List Event) × IsOpening start × IsHistory start history s
