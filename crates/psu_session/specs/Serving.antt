-- The effect of a call on the session and on the device.
use Rattle.std.specs.Prelude.{◌≡◌, ℕ, ◌-◌, List, [], ◌∷◌, ◌++◌}
use Rattle.psu_hislip.specs.Answer.{answer_size}
use Rattle.psu_hislip.specs.Core.{Core}
use Rattle.psu_hislip.specs.declared.action.Origin.{Origin}
use Rattle.psu_messages.specs.Executions.{Reaches, Progress}
use Rattle.psu_messages.specs.Effects.{Effect}
use Rattle.psu_session.specs.Orders.{Done, IsFramed, Order, effects, frames}
use Rattle.psu_session.specs.Events.{Call, Event, calls}
use Rattle.psu_session.specs.Phases.{tries}
use Rattle.psu_session.specs.Step.{AreFramed, happened}
use Rattle.psu_session.specs.State.{Release, SessionState, Work, added}

-- calls of the device, one after another, each leading from one of its states to another
abbrev pub Runs : {X : Type 0} → (X → Call → X → Type 0) → X → List Call → X → Type 0
Runs does x [] y = y ≡ x
Runs {X} does x (call ∷ calls) y = (mid : X) × does x call mid × Runs does mid calls y

-- The events are such, by these calls of the device; their frames, and what is queued, are appended to the state.
pub record Appends {X : Type 0} (does : X → Call → X → Type 0) (Are : List Event → Type 0) (works : List Work) (requested : List Release) (s : SessionState) (x : X) (t : SessionState) (y : X) : Type 0 where
  pub done : List Event
  pub are : Are done
  pub runs : Runs does x (calls done) y
  pub then : t ≡ added s works requested done

-- The events are a step of the session, by these calls of the device.
pub record PerformsStep {X : Type 0} (does : X → Call → X → Type 0) (Is : SessionState → List Event → SessionState → Type 0) (s : SessionState) (x : X) (t : SessionState) (y : X) : Type 0 where
  pub done : List Event
  pub is : Is s done t
  pub runs : Runs does x (calls done) y

-- ---- execution

-- the frames of an effect are appended to the output
abbrev pub Puts : Core → Origin → Effect → List ℕ → List ℕ → Type 0
Puts core origin effect old new = (out : List ℕ) × IsFramed (answer_size core.size) origin.id effect out × (new ≡ old ++ out)

-- Effects advance a transmission, each by a call of the device, and their frames are appended to the output. Of so many
-- units that may be tried so many are left.
pub record AdvancesOrder {X : Type 0} (does : X → Call → X → Type 0) (core : Core) (order : Order) (progress : Progress) (old : List ℕ) (x : X) (reached : Progress) (new : List ℕ) (y : X) (units left : ℕ) : Type 0 where
  pub effects_done : List Done
  pub reaches : (before : List Effect) → Reaches order.source before progress → Reaches order.source (before ++ effects effects_done) reached
  pub framed : AreFramed (answer_size core.size) order.origin.id effects_done
  pub output : new ≡ old ++ frames effects_done
  pub runs : Runs does x (calls (happened order.origin effects_done)) y
  pub counted : left ≡ units - tries (calls (happened order.origin effects_done))
