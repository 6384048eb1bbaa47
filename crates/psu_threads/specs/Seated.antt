-- A session, and the seat under which it calls the device, as they are kept together under the session's lock.
use Rattle.std.specs.Prelude.{◌≡◌, ℕ, Bool, true, false, Some, List, [], ◌∷◌, ◌++◌}
use Rattle.psu_hislip.specs.Channel.{Fed}
use Rattle.psu_hislip.specs.Stream.{Received}
use Rattle.psu_exec.specs.Device.{State}
use Rattle.psu_exec.specs.Calls.{Entry}
use Rattle.psu_turn.specs.Seats.{Sight, SeatCalls}
use Rattle.psu_bench.specs.Calls.{AllowsOn}
use Rattle.psu_bench.specs.Opened.{HasHistory}
use Rattle.psu_session.specs.Events.{Call, Event, calls}
use Rattle.psu_session.specs.Phases.{phase_ended}
use Rattle.psu_session.specs.State.{Start, SessionState, fresh}
use Rattle.psu_session.specs.Step.{IsHistory, IsOpening}
use Rattle.psu_session.specs.declared.phase.Phase.{Phase}
use Rattle.psu_session.specs.declared.phase.Phase.TheVariants.{Open}
use Rattle.psu_session_io.specs.Extending.{ArePart}
use Rattle.psu_session_io.specs.Shared.{Shared}
use Rattle.psu_threads.specs.Called.{AreAllEntries, SessionSeat}

-- the session's number; what its threads share; its seat; and whether the device has closed it
pub record Seated : Type 0 where
  pub number : ℕ
  pub shared : Shared
  pub seat : Sight State Entry
  pub closed : Bool

-- the entry of the closing, where the device has closed a session; it is over then
abbrev pub MayBeClosed : ℕ → Bool → Phase → List Entry → Type 0
MayBeClosed session false phase entries = entries ≡ []
MayBeClosed session true phase entries = (phase_ended phase ≡ true) × ((granted : List ℕ) × (entries ≡ Entry.Closed session granted ∷ []))

-- There are a history of the session, which leads to its state unless it is over, and a legal history of the device, which
-- the seat has seen. Under the seat's number this has exactly the opening of the session, the entries of the calls of the
-- session's history, in their order, and once the device has closed it the closing. Before that, where the session is
-- over, there may be the first calls of a step that was not completed.
pub record IsSeated (honest : Type 0) (session : ℕ) (closed : Bool) (s : Shared) (seat : Sight State Entry) : Type 0 where
  pub start : Start
  pub history : List Event
  pub reached : SessionState
  pub rest : List Call
  pub entries : List Entry
  pub closing : List Entry
  pub opening : IsOpening start
  pub number : start.session ≡ session
  pub is : IsHistory start history reached
  pub now : phase_ended s.phase ≡ false → (reached ≡ s.state) × (rest ≡ [])
  pub part : ArePart reached rest
  pub are : AreAllEntries session (calls history ++ rest) entries
  pub closes : MayBeClosed session closed s.phase closing
  pub device : HasHistory (AllowsOn honest) seat
  pub mine : seat.mine ≡ Entry.Opened (Some session) ∷ (entries ++ closing)

-- A session of this number that has just begun: its synchronous connection has sent these bytes, which are one message, and
-- its asynchronous one nothing.
pub record HasBegun (session : ℕ) (opening : List ℕ) (phase : Phase) (state : SessionState) : Type 0 where
  pub start : Start
  pub first : Received
  pub sync : Fed start.sync opening (first ∷ [])
  pub async : Fed start.async [] []
  pub number : start.session ≡ session
  pub state_is : state ≡ fresh start
  pub phase_is : phase ≡ Open

-- ---- what a call of a session with its seat does

-- the device of a session of this number, as the session calls it under this seat
abbrev pub under : ℕ → Sight State Entry → SessionSeat
under session seat = record { session = session; seat = seat }

-- This was done to the session, and to the device under its seat.
pub record DoesUnder (Does : Shared → SessionSeat → Shared → SessionSeat → Type 0) (old new : Seated) : Type 0 where
  pub after : SessionSeat
  pub has : new.seat ≡ after.seat
  pub does : Does old.shared (under old.number old.seat) new.shared after
  pub rest : new ≡ record old { shared = new.shared; seat = new.seat }

-- the session has changed, and the device was not called
abbrev pub with_shared : Seated → Shared → Seated
with_shared s shared = record s { shared = shared }

-- The device closed the session, under its seat. The locks of these sessions were then granted.
abbrev pub ClosesUnder : Type 0 → List ℕ → Seated → Seated → Type 0
ClosesUnder honest granted old new = SeatCalls (AllowsOn honest) old.seat (Entry.Closed old.number granted) new.seat
