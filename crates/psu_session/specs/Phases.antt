-- The phases of a session. Source: IVI-6.1 (a session ends with one of its connections); what was sent before is executed
-- as a message that a client sends and then hangs up: this project's profile.
use Rattle.std.specs.Prelude.{ℕ, ◌+◌, ◌==◌, if◌then◌else◌, Bool, true, false, List, [], ◌∷◌}
use Rattle.psu_messages.specs.declared.need.Need.TheVariants.{Flush, Lock, Room, Turn}
use Rattle.psu_session.specs.Events.{Call, Executed, Settled}
use Rattle.psu_session.specs.declared.phase.EndCause.TheVariants.{Disconnected}
use Rattle.psu_session.specs.declared.phase.Phase.{Phase}
use Rattle.psu_session.specs.declared.phase.Phase.TheVariants.{Open, Ending, Over}
use Rattle.psu_session.specs.declared.proceeding.Proceeded.{Proceeded}
use Rattle.psu_session.specs.declared.proceeding.Proceeded.TheVariants.{Idle, Completed, Waits}

abbrev pub phase_ended : Phase → Bool
phase_ended Open = false
phase_ended (Ending left) = false
phase_ended (Over cause) = true

-- A connection has ended: 65,536 units more are tried of what was sent before.
abbrev pub disconnected : Phase → Phase
disconnected Open = Ending 65536
disconnected (Ending left) = Ending left
disconnected (Over cause) = Over cause

-- ---- units

-- how many units a call of the device tries
abbrev pub tries_by : Call → ℕ
tries_by (Executed request reply) = 1
tries_by (Settled reply) = 1
tries_by _ = 0

-- how many units calls try
abbrev pub tries : List Call → ℕ
tries [] = 0
tries (call ∷ calls) = tries_by call + tries calls

-- how many units may be tried: 64 in a call of a session that is open
abbrev pub units_in : Phase → ℕ
units_in Open = 64
units_in (Ending left) = left
units_in (Over cause) = 0

-- The phase of a session that ends, if so many units are left: it is over once none is left, or where a unit has to wait.
abbrev pub with_left : ℕ → Proceeded → Phase
with_left left Idle = if left == 0 then Over Disconnected else Ending left
with_left left Completed = if left == 0 then Over Disconnected else Ending left
with_left left (Waits Flush) = Over Disconnected
with_left left (Waits Lock) = Over Disconnected
with_left left (Waits Room) = Over Disconnected
with_left left (Waits Turn) = if left == 0 then Over Disconnected else Ending left

-- the phase after a call that continued the execution
abbrev pub phase_after : Phase → ℕ → Proceeded → Phase
phase_after Open left proceeded = Open
phase_after (Ending old) left proceeded = with_left left proceeded
phase_after (Over cause) left proceeded = Over cause
