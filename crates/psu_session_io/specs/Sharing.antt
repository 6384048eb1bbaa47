-- What a thread does to a session while it holds it.
use Rattle.std.specs.Prelude.{◌≡◌, ◌⊎◌, ◌↔◌, ◌&&◌, not, IsTrue, ℕ, Bool, true, false, Option, Some, None, List, []}
use Rattle.psu_hislip.specs.declared.side.Side.{Side}
use Rattle.psu_hislip.specs.declared.side.Side.TheVariants.{Sync, Async}
use Rattle.psu_locks.specs.declared.results.Grant.{Grant}
use Rattle.psu_locks.specs.declared.results.Grant.TheVariants as grant
use Rattle.psu_messages.specs.declared.need.Need.{Need}
use Rattle.psu_messages.specs.declared.need.Need.TheVariants.{Flush, Lock, Room, Turn}
use Rattle.psu_session.specs.Events.{Call}
use Rattle.psu_session.specs.Phases.{phase_ended}
use Rattle.psu_session.specs.Proceeding.{Proceeds}
use Rattle.psu_session.specs.Serving.{Appends, PerformsStep}
use Rattle.psu_session.specs.State.{SessionState, HasWork, writes}
use Rattle.psu_session.specs.Holding.{IsFull}
use Rattle.psu_session.specs.Stopping.{StopsNext, StopsReceiving}
use Rattle.psu_session.specs.Step.{IsLockGranted, IsReceived, IsServiceRequested, IsTicked}
use Rattle.psu_session.specs.declared.phase.EndCause.{EndCause}
use Rattle.psu_session.specs.declared.phase.EndCause.TheVariants.{Memory}
use Rattle.psu_session.specs.declared.phase.Phase.TheVariants.{Open, Over}
use Rattle.psu_session.specs.declared.proceeding.Proceeded.{Proceeded}
use Rattle.psu_session.specs.declared.proceeding.Proceeded.TheVariants.{Idle, Completed, Waits}
use Rattle.psu_session_io.specs.declared.ending.Drained.TheVariants.{More, AllDone}
use Rattle.psu_session_io.specs.declared.notice.Notice.{Notice}
use Rattle.psu_session_io.specs.declared.notice.Notice.TheVariants as notice
use Rattle.psu_session_io.specs.declared.linear.Received.{Received}
use Rattle.psu_session_io.specs.declared.linear.Remainder.{Remainder}
use Rattle.psu_session_io.specs.declared.linear.Received.TheVariants.{All, Full, Again}
use Rattle.psu_session_io.specs.Ending.{Drains, IsEnding}
use Rattle.psu_session_io.specs.Leaving.{EndsTaking, Notes, Takes}
use Rattle.psu_session_io.specs.Shared.{Keeps, Shared, with_reader, with_value, with_waits}

-- ---- bytes that were read

-- a service request is sent once the asynchronous connection is there
abbrev pub MayRequestService : {X : Type 0} → (X → Call → X → Type 0) → Bool → Shared → X → Shared → X → Type 0
MayRequestService does true s x t y = Appends does IsServiceRequested [] [] s.state x t.state y × Keeps s t × (t ≡ with_value s t.phase t.state)
MayRequestService does false s x t y = (t ≡ s) × (y ≡ x)

-- these bytes have joined the asynchronous connection to the session, which is not over
abbrev pub has_joined : Bool → Shared → Bool
has_joined was s = not was && s.state.core.joined && not (phase_ended s.phase)

-- The bytes are received. Where they join the asynchronous connection, a service request of before is sent after them.
pub record ReceivesAll {X : Type 0} (does : X → Call → X → Type 0) (now : ℕ) (side : Side) (bytes : List ℕ) (s : Shared) (x : X) (t : Shared) (y : X) : Type 0 where
  pub was : phase_ended s.phase ≡ false
  pub room : IsFull side s.state → ⊥
  pub mid : Shared
  pub at : X
  pub receives : PerformsStep does (IsReceived now side bytes) s.state x mid.state at
  pub phase : Keeps s mid
  pub rest : mid ≡ with_value s mid.phase mid.state
  pub requests : MayRequestService does (has_joined s.state.core.joined mid) mid at t y

-- The bytes are received; or the session is full and they are returned: it is open, and its reader is noted to wait for
-- room; or a connection has ended, and a part of what was sent before was executed, so that there may be room.
abbrev pub Receives : {X S : Type 0} → (X → Call → X → Type 0) → ℕ → Side → List ℕ → Received S → Shared → X → Shared → X → Type 0
Receives does now side bytes (All pending) s x t y = ReceivesAll does now side bytes s x t y × (pending.again ≡ false)
Receives does now side bytes (Full returned) s x t y = IsFull side s.state × (s.phase ≡ Open) × (returned.bytes.now ≡ bytes) × (t ≡ with_reader side s) × (y ≡ x)
Receives does now side bytes (Again returned) s x t y = IsFull side s.state × (side ≡ Sync) × (returned.bytes.now ≡ bytes) × Drains does More s x t y

-- The bytes are not received: the session is over for a cause; or a connection has ended, and there is no room for them,
-- also once what need not wait was executed.
abbrev pub EndsReceiving : {X : Type 0} → (X → Call → X → Type 0) → ℕ → Side → List ℕ → Shared → X → Shared → X → Type 0
EndsReceiving does now side bytes s x t y =
    ((phase_ended s.phase ≡ true) × (t ≡ s) × (y ≡ x))
    ⊎ ((phase_ended s.phase ≡ false) × (IsFull side s.state → ⊥) × (cause : EndCause) × StopsReceiving does now side bytes cause s.state x y × (t ≡ with_value s (Over cause) t.state))
    ⊎ (IsFull side s.state × IsEnding s.phase × (side ≡ Async) × (t ≡ s) × (y ≡ x))
    ⊎ (IsFull side s.state × IsEnding s.phase × (side ≡ Sync) × Drains does AllDone s x t y)

-- ---- execution

-- Whether a thread executes more at once. Where others are let in, it leaves that to the thread that writes, if there is
-- one.
abbrev pub HasMore : Proceeded → SessionState → Type 0
HasMore Idle s = ⊥
HasMore Completed s = HasWork s
HasMore (Waits Flush) s = ⊥
HasMore (Waits Lock) s = ⊥
HasMore (Waits Room) s = ⊥
HasMore (Waits Turn) s = writes Sync s ≡ false

-- What the next unit waits for then.
abbrev pub waits_for : Proceeded → Option Need
waits_for Idle = None
waits_for Completed = None
waits_for (Waits Flush) = Some Flush
waits_for (Waits Lock) = Some Lock
waits_for (Waits Room) = Some Room
waits_for (Waits Turn) = None

-- the execution is continued
abbrev pub ContinuesExecution : {X : Type 0} → (X → Call → X → Type 0) → Proceeded → Shared → X → Shared → X → Type 0
ContinuesExecution does proceeded s x t y = PerformsStep does (Proceeds proceeded) s.state x t.state y × Keeps s t × (t ≡ record s { phase = t.phase; state = t.state; waits = waits_for proceeded })

-- The execution is continued, unless a unit waits and is not to be tried again.
abbrev pub MayContinue : {X : Type 0} → (X → Call → X → Type 0) → Bool → Proceeded → Option Need → Shared → X → Shared → X → Type 0
MayContinue does again proceeded None s x t y = ContinuesExecution does proceeded s x t y
MayContinue does true proceeded (Some need) s x t y = ContinuesExecution does proceeded s x t y
MayContinue does false proceeded (Some need) s x t y = (t ≡ s) × (y ≡ x) × (proceeded ≡ Idle)

-- The execution is continued, and what is to be written on the synchronous connection is taken. Meanwhile writes of other
-- threads may be over.
pub record Executes {X S : Type 0} (does : X → Call → X → Type 0) (again : Bool) (remainder : Remainder S) (s : Shared) (x : X) (t : Shared) (y : X) : Type 0 where
  pub open_before : s.phase ≡ Open
  pub proceeded : Proceeded
  pub more : Bool
  pub after : Shared
  pub known : Shared
  pub continues : MayContinue does again proceeded s.waits s x after y
  pub noted : Notes after known
  pub has_more : IsTrue more ↔ HasMore proceeded known.state
  pub takes : Takes Sync more remainder known t

-- The session was not open, and is not executed; or memory was refused in the execution; or it was continued, and then the
-- session is over, as memory is refused for the next reply, or has sent all after a FatalError.
abbrev pub EndsExecuting : {X : Type 0} → (X → Call → X → Type 0) → Bool → Shared → X → Shared → X → Type 0
EndsExecuting does again s x t y =
    ((s.phase ≡ Open → ⊥) × (t ≡ s) × (y ≡ x))
    ⊎ ((s.phase ≡ Open) × StopsNext does s.state x y × (t ≡ with_value s (Over Memory) t.state))
    ⊎ ((s.phase ≡ Open) × (proceeded : Proceeded) × (after : Shared) × (known : Shared) × MayContinue does again proceeded s.waits s x after y × Notes after known × EndsTaking known t)

-- What is to be written on the asynchronous connection is taken. Meanwhile writes of other threads may be over.
abbrev pub Responds : {S : Type 0} → Remainder S → Shared → Shared → Type 0
Responds remainder s t = (s.phase ≡ Open) × (known : Shared) × Notes s known × Takes Async false remainder known t

-- The session was not open; or it has sent all after a FatalError.
abbrev pub EndsResponding : Shared → Shared → Type 0
EndsResponding s t = ((s.phase ≡ Open → ⊥) × (t ≡ s)) ⊎ ((s.phase ≡ Open) × (known : Shared) × Notes s known × EndsTaking known t)

-- ---- notices

-- the lock request that waits has this result
abbrev pub IsGranted : {X : Type 0} → (X → Call → X → Type 0) → Grant → Shared → X → Shared → X → Type 0
IsGranted does grant s x t y = Appends does (IsLockGranted s.state.lock_waits grant) [] [] s.state x t.state y × Keeps s t × (t ≡ with_value s t.phase t.state)

-- What a notice does to a session. A unit that waits is tried again after one that says that what it waits for may have
-- come.
abbrev pub Notifies : {X : Type 0} → (X → Call → X → Type 0) → ℕ → Notice → Shared → X → Shared → X → Type 0
Notifies does now notice.Continue s x t y = (t ≡ with_waits s None) × (y ≡ x)
Notifies does now notice.Granted s x t y = IsGranted does grant.Granted s x t y
Notifies does now notice.Failed s x t y = IsGranted does grant.Failed s x t y
Notifies does now notice.Service s x t y = MayRequestService does s.state.core.joined s x t y
Notifies does now notice.Output s x t y = (t ≡ s) × (y ≡ x)
Notifies does now notice.Room s x t y = (t ≡ s) × (y ≡ x)
Notifies does now notice.Time s x t y = IsTicked now s.state [] t.state × (t ≡ with_value s s.phase t.state) × (y ≡ x)
Notifies does now notice.End s x t y = (t ≡ s) × (y ≡ x)

-- The session was not open; or memory was refused as time passes.
abbrev pub EndsNotified : ℕ → Notice → Shared → Shared → Type 0
EndsNotified now given s t =
    ((s.phase ≡ Open → ⊥) × (t ≡ s))
    ⊎ ((s.phase ≡ Open) × (given ≡ notice.Time) × (t ≡ with_value s (Over Memory) t.state))
