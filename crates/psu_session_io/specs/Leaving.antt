-- The output of a session that threads share: what is to be written, by whom, and what is left to other threads.
use Rattle.std.specs.Prelude.{◌≡◌, ◌≢◌, ◌⊎◌, ◌↔◌, IsTrue, IfSome, IsNone, is_some, Bool, true, false, Option, Some, None, Result, Ok, Err, [], ◌∷◌, ⊤}
use Rattle.psu_hislip.specs.declared.side.Side.{Side}
use Rattle.psu_hislip.specs.declared.side.Side.TheVariants.{Sync, Async}
use Rattle.psu_messages.specs.declared.need.Need.{Need}
use Rattle.psu_messages.specs.declared.need.Need.TheVariants.{Flush, Lock, Room, Turn}
use Rattle.psu_session.specs.Events.{Took, Wrote}
use Rattle.psu_session.specs.Holding.{IsFull}
use Rattle.psu_session.specs.Phases.{disconnected, phase_ended}
use Rattle.psu_session.specs.Releasing.{due_at}
use Rattle.psu_session.specs.State.{SessionState, HasWork, output, writes}
use Rattle.psu_session.specs.Step.{IsTaken, IsWritten}
use Rattle.psu_session_io.specs.Shared.{Keeps, Shared, with_phase, with_value}
use Rattle.psu_session_io.specs.declared.linear.AfterWrite.{AfterWrite}
use Rattle.psu_session_io.specs.declared.linear.Closing.{Closing}
use Rattle.psu_session_io.specs.declared.linear.Disconnected.{Disconnected}
use Rattle.psu_session_io.specs.declared.linear.NextTask.{NextTask}
use Rattle.psu_session_io.specs.declared.linear.NextTask.TheVariants.{Write, Continue, Wait}
use Rattle.psu_session_io.specs.declared.linear.Remainder.{Remainder}
use Rattle.psu_session_io.specs.declared.linear.Written.{Written}

-- ---- writes that are over

-- The write on a connection, if there is one, may be noted as over.
abbrev pub MayBeNoted : Side → SessionState → SessionState → Type 0
MayBeNoted side s t = (t ≡ s) ⊎ IsWritten side s (Wrote side ∷ []) t

-- so may be the writes on both
abbrev pub AreNoted : SessionState → SessionState → Type 0
AreNoted s t = (mid : SessionState) × MayBeNoted Sync s mid × MayBeNoted Async mid t

-- and nothing else has changed
abbrev pub Notes : Shared → Shared → Type 0
Notes s t = AreNoted s.state t.state × (t ≡ with_value s s.phase t.state)

-- ---- output

-- there are bytes to be sent on a connection, and no thread writes there
abbrev pub IsUnwritten : Side → SessionState → Type 0
IsUnwritten side s = (output side s ≢ []) × (writes side s ≡ false)

-- all output of a connection is written
abbrev pub HasSent : Side → SessionState → Type 0
HasSent side s = (output side s ≡ []) × (writes side s ≡ false)

-- The session has failed, and all its output is written: its connections end.
abbrev pub HasSentAll : SessionState → Type 0
HasSentAll s = (s.core.failed ≡ true) × HasSent Sync s × HasSent Async s

-- A thread that writes on a connection is to continue the session after that: for output there, to execute, or since the
-- session ends once all is sent.
abbrev pub IsAwaited : Side → Option Need → SessionState → Type 0
IsAwaited side waits s = (s.core.failed ≡ true) ⊎ (output side s ≢ []) ⊎ ((side ≡ Sync) × (waits ≡ None) × HasWork s)

-- What a thread that writes on a connection leaves to the threads of the other one: output; and to the worker what is to
-- be executed, unless a unit waits, and releases, which it does in time.
abbrev pub IsForOthers : Side → Option Need → SessionState → Type 0
IsForOthers Sync waits s = IsUnwritten Async s
IsForOthers Async waits s = IsUnwritten Sync s ⊎ ((waits ≡ None) × HasWork s) ⊎ (s.releases ≢ [])

abbrev pub waits_for_room : Option Need → Bool
waits_for_room None = false
waits_for_room (Some Flush) = false
waits_for_room (Some Lock) = false
waits_for_room (Some Room) = true
waits_for_room (Some Turn) = false

-- a reader waits for room, and there is room
abbrev pub HasRoom : Bool → Side → SessionState → Type 0
HasRoom waits side s = IsTrue waits × (IsFull side s → ⊥)

-- a reader waits for room, and there is none
abbrev pub StillWaits : Bool → Side → SessionState → Type 0
StillWaits waits side s = IsTrue waits × IsFull side s

-- The thread itself continues the session where there is more to execute, or once it has written what a session sends
-- last. The other threads are notified of just this; a reader that is notified of room waits for it no longer, and one that
-- waits while the session is full still waits.
pub record LeavesToOthers {S : Type 0} (side : Side) (more : Bool) (remainder : Remainder S) (s t : Shared) : Type 0 where
  pub more_left : IsTrue remainder.more ↔ (IsTrue more ⊎ ((is_some remainder.bytes ≡ true) × (s.state.core.failed ≡ true)))
  pub late : remainder.late ≡ waits_for_room s.waits
  pub other : IsTrue remainder.other ↔ IsForOthers side s.waits s.state
  pub sync_room : IsTrue remainder.sync_room ↔ HasRoom s.sync_waits Sync s.state
  pub async_room : IsTrue remainder.async_room ↔ HasRoom s.async_waits Async s.state
  pub due : remainder.due ≡ due_at s.state.releases
  pub sync_waits : IsTrue t.sync_waits ↔ StillWaits s.sync_waits Sync s.state
  pub async_waits : IsTrue t.async_waits ↔ StillWaits s.async_waits Async s.state
  pub rest : t ≡ record s { sync_waits = t.sync_waits; async_waits = t.async_waits }

-- The bytes of the output are taken, where there are any and no thread writes.
pub record IsTakenAs {S : Type 0} (side : Side) (remainder : Remainder S) (s t : Shared) : Type 0 where
  pub some : IfSome remainder.bytes (λ bytes. IsTaken side bytes.items s.state (Took side bytes.items ∷ []) t.state)
  pub none : IsNone remainder.bytes → (t.state ≡ s.state) × ((writes side s.state ≡ true) ⊎ (output side s.state ≡ []))
  pub phase : Keeps s t
  pub rest : t ≡ with_value s t.phase t.state

-- They are taken, and the rest is left to others.
pub record Takes {S : Type 0} (side : Side) (more : Bool) (remainder : Remainder S) (s t : Shared) : Type 0 where
  pub taken : Shared
  pub takes : IsTakenAs side remainder s taken
  pub leaves : LeavesToOthers side more remainder taken t

-- Nothing is taken: the session is over; or it has sent its FatalError and all before it, so its connections end.
abbrev pub EndsTaking : Shared → Shared → Type 0
EndsTaking s t = ((phase_ended s.phase ≡ true) × (t ≡ s)) ⊎ (HasSentAll s.state × (t ≡ with_phase s (disconnected s.phase)))

-- ---- what a thread does then

-- It writes the bytes that were taken, and continues the session after that, or at once, where it has to.
abbrev pub IsNext : {S : Type 0} → Remainder S → NextTask S → Type 0
IsNext remainder (Write outgoing) = (remainder.bytes ≡ Some outgoing.bytes) × (IsTrue remainder.more → IsTrue outgoing.after.more) × (outgoing.after.due ≡ remainder.due)
IsNext remainder (Continue pending) = remainder.bytes ≡ None
IsNext remainder (Wait due) = (remainder.bytes ≡ None) × (remainder.more ≡ false) × (due ≡ remainder.due)

-- After a write it continues the session where it has to, or another thread waits for that.
abbrev pub IsAfterWrite : {S : Type 0} → AfterWrite → NextTask S → Type 0
IsAfterWrite after (Write outgoing) = ⊥
IsAfterWrite after (Continue pending) = pending.again ≡ after.again
IsAfterWrite after (Wait due) = (after.more ≡ false) × (due ≡ after.due)

-- a connection that has ended ends the session
abbrev pub IsAfter : {S : Type 0} → Result (Written S) Disconnected → Result (NextTask S) Closing → Type 0
IsAfter (Ok written) (Ok next) = IsAfterWrite written.after next
IsAfter (Ok written) (Err closing) = ⊥
IsAfter (Err disconnected) (Ok next) = ⊥
IsAfter (Err disconnected) (Err closing) = ⊤
