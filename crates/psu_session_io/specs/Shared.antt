-- A session as its threads share it.
use Rattle.std.specs.Prelude.{Bool, true, Option}
use Rattle.psu_hislip.specs.declared.side.Side.{Side}
use Rattle.psu_hislip.specs.declared.side.Side.TheVariants.{Sync, Async}
use Rattle.psu_messages.specs.declared.need.Need.{Need}
use Rattle.psu_session.specs.State.{KeepsPhase, SessionState}
use Rattle.psu_session.specs.declared.phase.Phase.{Phase}

-- The phase and the state of a session; what the next unit waits for, if its execution is not to be continued before; and
-- whether the reader of each connection waits for room.
pub record Shared : Type 0 where
  pub phase : Phase
  pub state : SessionState
  pub waits : Option Need
  pub sync_waits : Bool
  pub async_waits : Bool

-- the session's value has changed, and nothing else
abbrev pub with_value : Shared → Phase → SessionState → Shared
with_value s phase state = record s { phase = phase; state = state }

-- so has its phase
abbrev pub with_phase : Shared → Phase → Shared
with_phase s phase = record s { phase = phase }

abbrev pub with_waits : Shared → Option Need → Shared
with_waits s waits = record s { waits = waits }

-- the reader of a connection waits for room
abbrev pub with_reader : Side → Shared → Shared
with_reader Sync s = record s { sync_waits = true }
with_reader Async s = record s { async_waits = true }

-- A step that was completed leaves the phase, unless memory is refused for the next reply.
abbrev pub Keeps : Shared → Shared → Type 0
Keeps s t = KeepsPhase (record { phase = s.phase; state = s.state }) (record { phase = t.phase; state = t.state })
