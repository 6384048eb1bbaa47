-- The execution of what is queued, and the result of a call that continues it.
use Rattle.std.specs.Prelude.{◌≡◌, ◌⊎◌, ◌-◌, ◌≤◌, ℕ, Bool, Some, None, Result, List, [], ◌∷◌, length}
use Rattle.psu_locks.specs.declared.results.Freed.{Freed}
use Rattle.psu_locks.specs.declared.results.LockRefusal.{LockRefusal}
use Rattle.psu_tree.specs.declared.command.Request.{Request}
use Rattle.psu_replies.specs.Reply.{Reply}
use Rattle.psu_messages.specs.Executions.{Progress}
use Rattle.psu_messages.specs.Effects.{Effect, IsTry, needs}
use Rattle.psu_messages.specs.declared.need.Need.{Need}
use Rattle.psu_messages.specs.declared.need.Need.TheVariants.{Flush, Lock, Room, Turn}
use Rattle.psu_session.specs.Orders.{Order}
use Rattle.psu_session.specs.Credit.{cost}
use Rattle.psu_session.specs.Events.{Call, Event, LockReleased, Released, call_of, calls}
use Rattle.psu_session.specs.Phases.{phase_after, tries, units_in}
use Rattle.psu_session.specs.Step.{Steps, running}
use Rattle.psu_session.specs.State.{IsRefusedRoom, Running, SessionState, Work, Execute, ReleaseLock, added, with_owed, with_work}
use Rattle.psu_session.specs.declared.queue.NextWork.{NextWork}
use Rattle.psu_session.specs.declared.queue.NextWork.TheVariants as next
use Rattle.psu_session.specs.declared.phase.Phase.{Phase}
use Rattle.psu_session.specs.declared.proceeding.Proceeded.{Proceeded}
use Rattle.psu_session.specs.declared.proceeding.Proceeded.TheVariants.{Idle, Completed, Waits}

-- the transmission in execution, or else the first one of the queue, and the rest of the queue
abbrev pub IsFirst : SessionState → Order → List Work → Type 0
IsFirst s order later = ((progress : Progress) × (s.running ≡ Some (running order progress)) × (s.waiting ≡ later)) ⊎ ((s.running ≡ None) × (s.waiting ≡ Execute order ∷ later))

-- the next transmission is in execution, with its progress: it was, or it has begun
pub record IsNext (s : SessionState) (next : Running) (t : SessionState) : Type 0 where
  pub later : List Work
  pub first : IsFirst s next.order later
  pub then : t ≡ with_work s later (Some next)
  pub steps : Steps s [] t

-- the next item of the queue is a release, which was taken
pub record IsNextRelease (s : SessionState) (t : SessionState) : Type 0 where
  pub later : List Work
  pub none : s.running ≡ None
  pub first : s.waiting ≡ ReleaseLock ∷ later
  pub then : t ≡ with_work s later None

-- a transmission is over or was dropped
pub record IsCompleted (s : SessionState) (t : SessionState) : Type 0 where
  pub order : Order
  pub later : List Work
  pub first : IsFirst s order later
  pub none : t.running ≡ None
  pub left : t.waiting ≡ later

-- a lock was released
pub record IsFreed (s : SessionState) (t : SessionState) : Type 0 where
  pub later : List Work
  pub none : s.running ≡ None
  pub first : s.waiting ≡ ReleaseLock ∷ later
  pub still : t.running ≡ None
  pub left : t.waiting ≡ later

-- a transmission waits
pub record IsWaiting (s : SessionState) (t : SessionState) : Type 0 where
  pub order : Order
  pub later : List Work
  pub first : IsFirst s order later
  pub progress : Progress
  pub same : t.running ≡ Some (running order progress)
  pub left : t.waiting ≡ later

-- others are let in, or the last call of the device tried a unit, which waits for this need
abbrev pub IsAwaited : {X : Type 0} → (X → Call → X → Type 0) → X → Need → Type 0
IsAwaited {X} does now need =
    (need ≡ Turn)
    ⊎ ((was : X) × (effect : Effect) × (parked : Bool) × (request : Request) × (reply : Reply) × does was (call_of effect) now × IsTry parked request effect reply × (needs reply ≡ Some need))

-- Others are let in: 64 units were tried, or all that may be, or the output has no room for more.
abbrev pub LetsIn : ℕ → ℕ → List ℕ → Type 0
LetsIn units left output = (left ≤ units - 64) ⊎ (65536 ≤ length output)

abbrev pub Awaits : {X : Type 0} → (X → Call → X → Type 0) → Proceeded → X → Type 0
Awaits does Idle now = Unit {0}
Awaits does Completed now = Unit {0}
Awaits does (Waits need) now = IsAwaited does now need

abbrev pub Ends : Proceeded → SessionState → SessionState → Type 0
Ends Idle s t = (t ≡ s) × (s.running ≡ None) × (s.waiting ≡ [])
Ends Completed s t = IsCompleted s t ⊎ IsFreed s t
Ends (Waits need) s t = IsWaiting s t

-- Others are let in only after a unit was tried, or where the output has no room for more.
abbrev pub Yields : Proceeded → List Event → SessionState → Type 0
Yields Idle done t = Unit {0}
Yields Completed done t = Unit {0}
Yields (Waits Flush) done t = Unit {0}
Yields (Waits Lock) done t = Unit {0}
Yields (Waits Room) done t = Unit {0}
Yields (Waits Turn) done t = (1 ≤ tries (calls done)) ⊎ (65536 ≤ length t.sync)

-- What is next is executed, with this result.
pub record Proceeds (proceeded : Proceeded) (s : SessionState) (done : List Event) (t : SessionState) : Type 0 where
  pub steps : Steps s done t
  pub ends : Ends proceeded s t
  pub yields : Yields proceeded done t

-- Of so many units that may be tried so many are left.
pub record Counts (units : ℕ) (proceeded : Proceeded) (left : ℕ) (s : SessionState) (done : List Event) (t : SessionState) : Type 0 where
  pub proceeds : Proceeds proceeded s done t
  pub counted : left ≡ units - tries (calls done)

-- The phase of the session counts the units that are tried after the end of a connection, unless memory is refused for the
-- next reply.
pub record PassesTo (old : Phase) (proceeded : Proceeded) (new : Phase) (s : SessionState) (done : List Event) (t : SessionState) : Type 0 where
  pub proceeds : Proceeds proceeded s done t
  pub phase : (new ≡ phase_after old (units_in old - tries (calls done)) proceeded) ⊎ IsRefusedRoom s new t

-- this is executed next
abbrev pub IsNextWork : SessionState → NextWork → SessionState → Type 0
IsNextWork s next.Nothing t = (t ≡ s) × (s.running ≡ None) × (s.waiting ≡ [])
IsNextWork s next.Transmission t = (first : Running) × IsNext s first t
IsNextWork s next.Release t = IsNextRelease s t

-- the device releases a lock, and the response to its reply is appended to the output
pub record Frees {X : Type 0} (does : X → Call → X → Type 0) (s : SessionState) (x : X) (t : SessionState) (y : X) : Type 0 where
  pub reply : Result Freed LockRefusal
  pub call : does x (Released reply) y
  pub then : t ≡ added (with_owed s (s.owed - cost 0)) [] [] (LockReleased reply ∷ [])
