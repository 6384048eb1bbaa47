-- What a call of a shared session does to the session's history and to the device: steps of the session, by these calls
-- of the device, and nothing else.
use Rattle.std.specs.Prelude.{◌≡◌, ◌⊎◌, ℕ, true, false, List, [], ◌++◌, map}
use Rattle.psu_hislip.specs.Core.{IsCurrent}
use Rattle.psu_hislip.specs.declared.side.Side.{Side}
use Rattle.psu_messages.specs.Effects.{Effect}
use Rattle.psu_messages.specs.Executions.{Progress, Reaches}
use Rattle.psu_session.specs.Events.{Call, Event, call_of, calls}
use Rattle.psu_session.specs.Phases.{phase_ended}
use Rattle.psu_session.specs.Proceeding.{IsNext}
use Rattle.psu_session.specs.Serving.{Runs}
use Rattle.psu_session.specs.State.{Running, SessionState}
use Rattle.psu_session.specs.Step.{IsReceived, Steps}
use Rattle.psu_session_io.specs.Shared.{Shared}

-- Effects of the transmission that is executed next, which nothing has ended.
pub record AreOfNext (s : SessionState) (rest : List Call) : Type 0 where
  pub next : Running
  pub left : SessionState
  pub is : IsNext s next left
  pub current : IsCurrent left.core next.order.origin
  pub effects : List Effect
  pub new : Progress
  pub reaches : (before : List Effect) → Reaches next.order.source before next.progress → Reaches next.order.source (before ++ effects) new
  pub are : rest ≡ map call_of effects

-- The first calls of a step from this state: of bytes that are received, or of what is executed next.
abbrev pub ArePart : SessionState → List Call → Type 0
ArePart s rest =
    (rest ≡ [])
    ⊎ ((now : ℕ) × (side : Side) × (bytes : List ℕ) × (done : List Event) × (left : List Event) × (t : SessionState) × IsReceived now side bytes s (done ++ left) t × (rest ≡ calls done))
    ⊎ AreOfNext s rest

module _ {X : Type 0} (does : X → Call → X → Type 0) where
  -- A session that is not over has made steps, by the calls of the device that their events contain. Where it is over then,
  -- further calls may have been made, the first of a step that was not completed.
  pub record ExtendsBy (s : Shared) (x : X) (t : Shared) (y : X) : Type 0 where
    pub done : List Event
    pub reached : SessionState
    pub rest : List Call
    pub steps : Steps s.state done reached
    pub runs : Runs does x (calls done ++ rest) y
    pub part : ArePart reached rest
    pub now : phase_ended t.phase ≡ false → (reached ≡ t.state) × (rest ≡ [])

  -- A session that is over stays over, and does not call the device.
  pub record Extends (s : Shared) (x : X) (t : Shared) (y : X) : Type 0 where
    pub over : phase_ended s.phase ≡ true → (phase_ended t.phase ≡ true) × (y ≡ x)
    pub on : phase_ended s.phase ≡ false → ExtendsBy s x t y
