-- The state of a session between its calls.
use Rattle.std.specs.Prelude.{◌≡◌, ◌≢◌, ◌⊎◌, ℕ, ◌+◌, ◌-◌, ◌||◌, not, nat_le, Bool, false, Option, Some, None, List, [], ◌∷◌, ◌++◌, flat_map, if◌then◌else◌}
use Rattle.psu_hislip.specs.Channel.{Awaited}
use Rattle.psu_hislip.specs.Core.{Core}
use Rattle.psu_hislip.specs.Runs.{started}
use Rattle.psu_hislip.specs.declared.side.Side.{Side}
use Rattle.psu_hislip.specs.declared.side.Side.TheVariants.{Sync, Async}
use Rattle.psu_session.specs.Numbers.{is_ahead}
use Rattle.psu_messages.specs.Executions.{Progress}
use Rattle.psu_session.specs.Orders.{Order}
use Rattle.psu_session.specs.Credit.{cost, held_with}
use Rattle.psu_session.specs.Events.{Event, put, waits_after}
use Rattle.psu_session.specs.declared.phase.EndCause.TheVariants.{Memory}
use Rattle.psu_session.specs.declared.phase.Phase.{Phase}
use Rattle.psu_session.specs.declared.phase.Phase.TheVariants.{Over}

-- a transmission in execution, and its progress
pub record Running : Type 0 where
  pub order : Order
  pub progress : Progress

-- an item of the queue: a transmission that is to be executed, or a lock that is to be released
pub data Work : Type 0 where
  Execute : Order → Work
  ReleaseLock : Work

abbrev pub order_of_work : Work → List Order
order_of_work (Execute order) = order ∷ []
order_of_work ReleaseLock = []

-- the transmissions of a queue
abbrev pub orders_in : List Work → List Order
orders_in works = flat_map order_of_work works

-- a release that waits for the message of a number, and when it was requested
pub record Release : Type 0 where
  pub number : ℕ
  pub requested_at : ℕ

-- how much releases count as once these are counted too
abbrev pub owed_with : List Release → ℕ → ℕ
owed_with [] owed = owed
owed_with (release ∷ releases) owed = owed_with releases (owed + cost 0)

-- The frame readers of the two channels; the core of the protocol; the queue of what was received and has not begun, in
-- the order of arrival; the releases that wait for a message, and the number of the message that was received last; the
-- transmission in execution; whether a lock request waits for its result; the bytes that are to be sent on each
-- connection; whether a thread writes bytes there that were taken before; and how much the transmissions that are
-- queued or in execution count as, and the releases that are queued or wait.
pub record SessionState : Type 0 where
  pub sync_channel : Awaited
  pub async_channel : Awaited
  pub core : Core
  pub waiting : List Work
  pub releases : List Release
  pub last : ℕ
  pub running : Option Running
  pub lock_waits : Bool
  pub sync : List ℕ
  pub async : List ℕ
  pub sync_writes : Bool
  pub async_writes : Bool
  pub held : ℕ
  pub owed : ℕ

-- the start of a session: its number and its channels
pub record Start : Type 0 where
  pub session : ℕ
  pub sync : Awaited
  pub async : Awaited

-- A session that has only its synchronous connection, after its Initialize. A client's first message has the number
-- ffffff00.
abbrev pub fresh : Start → SessionState
fresh start = record {
  sync_channel = start.sync;
  async_channel = start.async;
  core = started start.session;
  waiting = [];
  releases = [];
  last = 4294967038;
  running = None;
  lock_waits = false;
  sync = [];
  async = [];
  sync_writes = false;
  async_writes = false;
  held = 0;
  owed = 0;
}

abbrev pub channel_of : Side → SessionState → Awaited
channel_of Sync s = s.sync_channel
channel_of Async s = s.async_channel

abbrev pub with_channel : Side → SessionState → Awaited → SessionState
with_channel Sync s channel = record s { sync_channel = channel }
with_channel Async s channel = record s { async_channel = channel }

-- with items, releases and the frames of events appended, and the lock request that waits after these events
abbrev pub added : SessionState → List Work → List Release → List Event → SessionState
added s works requested done = record s {
  waiting = s.waiting ++ works;
  releases = s.releases ++ requested;
  lock_waits = waits_after s.lock_waits done;
  sync = s.sync ++ put Sync done;
  async = s.async ++ put Async done;
  held = held_with (orders_in works) s.held;
  owed = owed_with requested s.owed;
}

abbrev pub with_core : SessionState → Core → SessionState
with_core s core = record s { core = core }

-- with this queue and this transmission in execution
abbrev pub with_work : SessionState → List Work → Option Running → SessionState
with_work s waiting running = record s { waiting = waiting; running = running }

abbrev pub with_held : SessionState → ℕ → SessionState
with_held s held = record s { held = held }

abbrev pub with_owed : SessionState → ℕ → SessionState
with_owed s owed = record s { owed = owed }

abbrev pub with_releases : SessionState → List Work → List Release → SessionState
with_releases s waiting releases = record s { waiting = waiting; releases = releases }

-- the message of a number counts as received
abbrev pub numbered : SessionState → Option ℕ → SessionState
numbered s None = s
numbered s (Some number) = record s { last = number }

abbrev pub output : Side → SessionState → List ℕ
output Sync s = s.sync
output Async s = s.async

abbrev pub with_output : Side → SessionState → List ℕ → SessionState
with_output Sync s bytes = record s { sync = bytes }
with_output Async s bytes = record s { async = bytes }

-- whether a thread writes on a connection
abbrev pub writes : Side → SessionState → Bool
writes Sync s = s.sync_writes
writes Async s = s.async_writes

abbrev pub with_writes : Side → SessionState → Bool → SessionState
with_writes Sync s writing = record s { sync_writes = writing }
with_writes Async s writing = record s { async_writes = writing }

-- something is to be executed
abbrev pub HasWork : SessionState → Type 0
HasWork s = (s.running ≢ None) ⊎ (s.waiting ≢ [])

-- ---- releases

-- the wait of a release is over: all are to be done, its message will not be received any more, or a tenth of a second
-- has passed
abbrev pub is_due : Bool → ℕ → ℕ → Release → Bool
is_due all now last release = all || not (is_ahead last release.number) || nat_le 100 (now - release.requested_at)

abbrev pub due : Bool → ℕ → ℕ → List Release → List Work
due all now last [] = []
due all now last (release ∷ releases) = if is_due all now last release then ReleaseLock ∷ due all now last releases else []

abbrev pub left : Bool → ℕ → ℕ → List Release → List Release
left all now last [] = []
left all now last (release ∷ releases) = if is_due all now last release then left all now last releases else release ∷ releases

-- the first releases, as far as their waits are over, are queued
abbrev pub settled : Bool → ℕ → SessionState → SessionState
settled all now s = with_releases s (s.waiting ++ due all now s.last s.releases) (left all now s.last s.releases)

-- a session as contracts see it: its phase and its state
pub record Shown : Type 0 where
  pub phase : Phase
  pub state : SessionState

-- Memory is refused for the next reply: only where the output of the asynchronous connection has changed, so that room for
-- that had to be made.
abbrev pub IsRefusedRoom : SessionState → Phase → SessionState → Type 0
IsRefusedRoom s phase t = (phase ≡ Over Memory) × (t.async ≡ s.async → ⊥)

-- A step that was completed leaves the session in its phase, unless memory is refused for the next reply.
abbrev pub KeepsPhase : Shown → Shown → Type 0
KeepsPhase old new = (new.phase ≡ old.phase) ⊎ IsRefusedRoom old.state new.phase new.state
