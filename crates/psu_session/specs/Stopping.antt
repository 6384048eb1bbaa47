-- Which calls of the device a step has made where it is not completed, so that the session is over: memory was refused,
-- or more would be held than a session may hold. Source: this may happen between two actions of a message and between
-- two effects of a transmission, and a call of the device cannot be undone. There is room for the reply to a single call
-- before it is made.
use Rattle.std.specs.Prelude.{◌≡◌, ◌⊎◌, ℕ, List, [], ◌++◌, map}
use Rattle.psu_hislip.specs.Core.{IsCurrent}
use Rattle.psu_hislip.specs.declared.side.Side.{Side}
use Rattle.psu_messages.specs.Effects.{Effect}
use Rattle.psu_messages.specs.Executions.{Progress, Reaches}
use Rattle.psu_session.specs.Events.{Call, Event, call_of, calls}
use Rattle.psu_session.specs.Orders.{Order}
use Rattle.psu_session.specs.Holding.{IsBounded}
use Rattle.psu_session.specs.Proceeding.{IsNext}
use Rattle.psu_session.specs.Serving.{Runs}
use Rattle.psu_session.specs.Step.{IsReceived}
use Rattle.psu_session.specs.State.{Release, Running, SessionState, Work, added}
use Rattle.psu_session.specs.declared.phase.EndCause.{EndCause}
use Rattle.psu_session.specs.declared.phase.EndCause.TheVariants.{Memory, TooMuchHeld, Disconnected}

-- Of some such events, the device was called for a prefix, in order, and for nothing else.
pub record CallsPrefix {X : Type 0} (does : X → Call → X → Type 0) (Are : List Event → Type 0) (x : X) (y : X) : Type 0 where
  pub done : List Event
  pub left : List Event
  pub are : Are (done ++ left)
  pub runs : Runs does x (calls done) y

-- What the cause says of the state to which a whole step would have led: more would be held there than may be.
abbrev pub IsEndCause : EndCause → SessionState → Type 0
IsEndCause Memory t = Unit {0}
IsEndCause TooMuchHeld t = IsBounded t → ⊥
IsEndCause Disconnected t = ⊥

-- A step was not completed, for this cause: the device was called for a prefix of its events, in order, and for nothing
-- else.
abbrev pub StopsIn : {X : Type 0} → (X → Call → X → Type 0) → (SessionState → List Event → SessionState → Type 0) → EndCause → SessionState → X → X → Type 0
StopsIn does Is cause s x y = CallsPrefix does (λ done. (t : SessionState) × Is s done t × IsEndCause cause t) x y

-- what it says of what is to be queued
abbrev pub IsQueueCause : EndCause → List Work → List Release → SessionState → Type 0
IsQueueCause cause works requested s = IsEndCause cause (added s works requested [])

-- Bytes were not received: memory was refused for the messages that they complete, or the step was not completed.
abbrev pub StopsReceiving : {X : Type 0} → (X → Call → X → Type 0) → ℕ → Side → List ℕ → EndCause → SessionState → X → X → Type 0
StopsReceiving does now side bytes cause s x y = ((y ≡ x) × (cause ≡ Memory)) ⊎ StopsIn does (IsReceived now side bytes) cause s x y

-- The device was called for effects that advance a transmission from a point of its progress, in order, and for nothing
-- else.
pub record CallsAdvancing {X : Type 0} (does : X → Call → X → Type 0) (order : Order) (progress : Progress) (x : X) (y : X) : Type 0 where
  pub effects : List Effect
  pub new : Progress
  pub reaches : (before : List Effect) → Reaches order.source before progress → Reaches order.source (before ++ effects) new
  pub runs : Runs does x (map call_of effects) y

-- The execution of what is next was not completed: it is a transmission, which nothing has ended, and the device was
-- called for effects of it.
pub record StopsNext {X : Type 0} (does : X → Call → X → Type 0) (s : SessionState) (x y : X) : Type 0 where
  pub next : Running
  pub left : SessionState
  pub is : IsNext s next left
  pub current : IsCurrent left.core next.order.origin
  pub called : CallsAdvancing does next.order next.progress x y
