-- A session after the end of a connection: what it was sent before is executed, and its responses are discarded.
use Rattle.std.specs.Prelude.{◌≡◌, ◌⊎◌, List, [], ⊤}
use Rattle.psu_hislip.specs.declared.side.Side.{Side}
use Rattle.psu_session.specs.Events.{Call, Event, calls}
use Rattle.psu_session.specs.Proceeding.{PassesTo}
use Rattle.psu_session.specs.State.{output}
use Rattle.psu_session.specs.Serving.{PerformsStep}
use Rattle.psu_session.specs.Step.{Steps}
use Rattle.psu_session.specs.Stopping.{StopsNext}
use Rattle.psu_session.specs.declared.phase.EndCause.TheVariants.{Memory}
use Rattle.psu_session.specs.declared.phase.Phase.{Phase}
use Rattle.psu_session.specs.declared.phase.Phase.TheVariants.{Open, Ending, Over}
use Rattle.psu_session.specs.declared.proceeding.Proceeded.{Proceeded}
use Rattle.psu_session.specs.declared.proceeding.Proceeded.TheVariants.{Idle}
use Rattle.psu_session_io.specs.declared.ending.Drained.{Drained}
use Rattle.psu_session_io.specs.declared.ending.Drained.TheVariants.{More, AllDone}
use Rattle.psu_session_io.specs.Shared.{Shared, with_value}

-- a connection has ended, and units of what was sent before may still be tried
abbrev pub IsEnding : Phase → Type 0
IsEnding Open = ⊥
IsEnding (Ending left) = ⊤
IsEnding (Over cause) = ⊥

-- Output may be discarded, and none is added, by steps of the session without a call of the device. Memory may be refused
-- for the next reply.
pub record Discards (s t : Shared) : Type 0 where
  pub done : List Event
  pub steps : Steps s.state done t.state
  pub uncalled : calls done ≡ []
  pub phase : (t.phase ≡ s.phase) ⊎ (t.phase ≡ Over Memory)
  pub adds_none : (side : Side) → output side s.state ≡ [] → output side t.state ≡ []
  pub rest : t ≡ with_value s t.phase t.state

-- Nothing is to be sent on a connection, unless memory was refused.
abbrev pub IsDiscarded : Side → Shared → Type 0
IsDiscarded side s = (s.phase ≡ Over Memory) ⊎ (output side s.state ≡ [])

-- The output of both connections is discarded, and then what is next is executed, with this result. The phase counts the
-- units that it has tried.
pub record DrainsOnce {X : Type 0} (does : X → Call → X → Type 0) (proceeded : Proceeded) (s : Shared) (x : X) (t : Shared) (y : X) : Type 0 where
  pub mid : Shared
  pub discards : Discards s mid
  pub none : (side : Side) → IsDiscarded side mid
  pub proceeds : PerformsStep does (PassesTo mid.phase proceeded t.phase) mid.state x t.state y
  pub rest : t ≡ with_value mid t.phase t.state

-- It is so, or memory was refused meanwhile.
abbrev pub StopsDraining : {X : Type 0} → (X → Call → X → Type 0) → Shared → X → Shared → X → Type 0
StopsDraining does s x t y = (mid : Shared) × Discards s mid × ((y ≡ x) ⊎ StopsNext does mid.state x y) × (t ≡ with_value mid (Over Memory) t.state)

-- Where there is more, a part of it was executed, and the session still ends. Where all is done, nothing was to be
-- executed; or no more may be, or a unit has to wait; or memory was refused; or no connection has ended.
abbrev pub Drains : {X : Type 0} → (X → Call → X → Type 0) → Drained → Shared → X → Shared → X → Type 0
Drains does More s x t y = IsEnding s.phase × (proceeded : Proceeded) × (proceeded ≡ Idle → ⊥) × DrainsOnce does proceeded s x t y × IsEnding t.phase
Drains does AllDone s x t y =
    ((IsEnding s.phase → ⊥) × (t ≡ s) × (y ≡ x))
    ⊎ (IsEnding s.phase × (proceeded : Proceeded) × ((proceeded ≡ Idle) ⊎ (IsEnding t.phase → ⊥)) × DrainsOnce does proceeded s x t y)
    ⊎ (IsEnding s.phase × StopsDraining does s x t y)
