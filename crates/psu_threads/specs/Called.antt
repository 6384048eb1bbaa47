-- The calls of a session, as calls of the device under the session's seat.
use Rattle.std.specs.Prelude.{◌≡◌, ◌≢◌, ◌⊎◌, List, [], ◌++◌, ℕ, Bool, Option, ◌∷◌}
use Rattle.psu_turn.specs.History.{StartsWith}
use Rattle.psu_turn.specs.Seats.{IsSame, Sight, SeatCalls}
use Rattle.psu_exec.specs.Device.{State}
use Rattle.psu_exec.specs.Calls.{Entry}
use Rattle.psu_bench.specs.Calls.{AllowsOn}
use Rattle.psu_bench.specs.Callers.{Causes, freed_to}
use Rattle.psu_bench.specs.Opened.{HasHistory}
use Rattle.psu_bench.specs.declared.caused.Caused.{Caused}
use Rattle.psu_session.specs.Events.{Call, Executed, Settled, Sent, Delivered, Queried, Fetched, Locked, Released, Informed, Cleared}

-- ---- what a seat has seen after several calls

module _ {S E : Type 0} (allows : S → E → S → Type 0) where
  -- After calls with these entries the seat has seen a history that begins with all that it had seen, and its own calls
  -- are those that it had made and then these. This history is legal, and has exactly the seat's calls under its
  -- number, if it was such before or there is an entry.
  pub record Adds (v : Sight S E) (entries : List E) (w : Sight S E) : Type 0 where
    pub same : IsSame v w
    pub seen : StartsWith w.seen v.seen
    pub mine : w.mine ≡ v.mine ++ entries
    pub history : HasHistory allows v ⊎ (entries ≢ []) → HasHistory allows w

-- ---- calls of a session

-- The entry of a call of a session, with its reply: the first of these holds of it, or the second where a unit is tried, since
-- notifications may follow that.
abbrev pub IsEntryOf : (Is Tried : Entry → Type 0) → ℕ → Call → Type 0
IsEntryOf Is Tried session (Executed request reply) = Tried (Entry.Executed session request reply)
IsEntryOf Is Tried session (Settled reply) = Tried (Entry.Settled session reply)
IsEntryOf Is Tried session Sent = (requesting : List ℕ) × (work : Bool) × Is (Entry.Sent session requesting work)
IsEntryOf Is Tried session Delivered = Is (Entry.Delivered session)
IsEntryOf Is Tried session (Queried byte) = Is (Entry.Queried session byte)
IsEntryOf Is Tried session (Fetched request) = Is (Entry.Fetched session request)
IsEntryOf Is Tried session (Locked kind timeout reply) = (now : ℕ) × Is (Entry.Locked session kind now timeout reply)
IsEntryOf Is Tried session (Released reply) = (granted : List ℕ) × Is (Entry.Released session (freed_to granted reply))
IsEntryOf Is Tried session (Informed info) = Is (Entry.Informed info)
IsEntryOf Is Tried session Cleared = Is (Entry.Cleared session)

-- The seat has made this call of a session. Its reply is what the one legal history says.
abbrev pub IsCalled : Type 0 → ℕ → Sight State Entry → Call → Sight State Entry → Type 0
IsCalled honest session old call new = IsEntryOf (λ entry. SeatCalls (AllowsOn honest) old entry new) (λ entry. (caused : Option Caused) × Causes honest old entry caused new) session call

-- A session's device, as the session calls it: the session's number, and the seat under which it is called.
pub record SessionSeat : Type 0 where
  pub session : ℕ
  pub seat : Sight State Entry

-- each call of the session is one under its seat
abbrev pub CallsUnder : Type 0 → SessionSeat → Call → SessionSeat → Type 0
CallsUnder honest x call y = (y.session ≡ x.session) × IsCalled honest x.session x.seat call y.seat

-- ---- calls, one after another

-- the entry of a call, and perhaps that of the notifications that were taken after it
abbrev pub MayNotify : Entry → List Entry → Type 0
MayNotify entry entries = (entries ≡ entry ∷ []) ⊎ ((requesting : List ℕ) × (work : Bool) × (entries ≡ entry ∷ Entry.Notified requesting work ∷ []))

-- the entries of the history for a call of a session, with its reply
abbrev pub AreEntries : ℕ → Call → List Entry → Type 0
AreEntries session call entries = IsEntryOf (λ entry. entries ≡ entry ∷ []) (λ entry. MayNotify entry entries) session call

-- the entries for calls of a session, in their order, and no others
abbrev pub AreAllEntries : ℕ → List Call → List Entry → Type 0
AreAllEntries session [] entries = entries ≡ []
AreAllEntries session (call ∷ calls) entries = (first : List Entry) × (later : List Entry) × (entries ≡ first ++ later) × AreEntries session call first × AreAllEntries session calls later

-- The seat has made exactly these calls of a session, in their order, with the replies that the one legal history says.
pub record AreCalls (honest : Type 0) (session : ℕ) (old : Sight State Entry) (calls : List Call) (new : Sight State Entry) : Type 0 where
  pub entries : List Entry
  pub are : AreAllEntries session calls entries
  pub adds : Adds (AllowsOn honest) old entries new
