-- What the seat that has opened a session has seen.
use Rattle.std.specs.Prelude.{◌≡◌, ℕ, Some, [], ◌∷◌}
use Rattle.psu_turn.specs.History.{calls_by}
use Rattle.psu_turn.specs.Seats.{IsLegalFrom, Sight}
use Rattle.psu_exec.specs.Device.{State}
use Rattle.psu_exec.specs.Calls.{Entry}
use Rattle.psu_bench.specs.Calls.{AllowsOn}

module _ {S E : Type 0} (allows : S → E → S → Type 0) where
  -- The seat has seen one legal history, in which exactly its own calls have its number.
  pub record HasHistory (v : Sight S E) : Type 0 where
    pub legal : IsLegalFrom allows v.opening v.seen
    pub own : calls_by v.number v.seen ≡ v.mine

-- the number of a session, and the seat that has opened it
pub record OpenedSeat : Type 0 where
  pub number : ℕ
  pub seat : Sight State Entry

-- the seat has opened a session under this number, and made no other call
pub record HasOpened (honest : Type 0) (session : ℕ) (seat : Sight State Entry) : Type 0 where
  pub history : HasHistory (AllowsOn honest) seat
  pub mine : seat.mine ≡ Entry.Opened (Some session) ∷ []
