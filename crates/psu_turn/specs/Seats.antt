-- What a seat knows, and what it knows after each call.
use Rattle.std.specs.Prelude.{◌≡◌, ◌≢◌, ℕ, List, [], ◌∷◌, ◌++◌, Option, Some}
use Rattle.psu_turn.specs.Turns.{TurnId}
use Rattle.psu_turn.specs.declared.numbered.Numbered.{Numbered}
use Rattle.psu_turn.specs.History.{numbered, calls_by, StartsWith, HistoryLeads, IsLegal}

-- The turn that the seat belongs to, its number there, the state of the object when the turn was created (`None`: a
-- call is being made with the seat), the history that it has seen, and its own calls.
pub record Sight (S E : Type 0) : Type 0 where
  pub turn : TurnId
  pub number : ℕ
  pub opening : Option S
  pub seen : List (Numbered E)
  pub mine : List E

module _ {S E : Type 0} where
  -- a seat of this turn, with which no call is being made
  abbrev pub IsOf : TurnId → Sight S E → Type 0
  IsOf turn v = (v.turn ≡ turn) × ((opening : S) × (v.opening ≡ Some opening))

  -- the first seat
  pub record Begins (turn : TurnId) (state : S) (v : Sight S E) : Type 0 where
    pub turn_is : v.turn ≡ turn
    pub opening : v.opening ≡ Some state
    pub seen : v.seen ≡ []
    pub mine : v.mine ≡ []

  -- w is the seat v, later
  pub record IsSame (v w : Sight S E) : Type 0 where
    pub turn : w.turn ≡ v.turn
    pub number : w.number ≡ v.number
    pub opening : w.opening ≡ v.opening

  -- a new seat beside v, with a number of its own, that has seen the same history and made no call
  pub record Splits (v new : Sight S E) : Type 0 where
    pub turn : new.turn ≡ v.turn
    pub number : new.number ≢ v.number
    pub opening : new.opening ≡ v.opening
    pub seen : new.seen ≡ v.seen
    pub mine : new.mine ≡ []
    pub own : calls_by new.number new.seen ≡ []

  module _ (allows : S → E → S → Type 0) where
    -- a legal history from the state when the turn was created
    abbrev pub IsLegalFrom : Option S → List (Numbered E) → Type 0
    IsLegalFrom opening history = (state : S) × (opening ≡ Some state) × IsLegal allows state history

    -- After its call e the seat has seen one legal history, which begins with all that it had seen and ends with e.
    -- Under the seat's number the history has exactly the seat's calls, each once.
    pub record SeatCalls (v : Sight S E) (e : E) (w : Sight S E) : Type 0 where
      pub same : IsSame v w
      pub seen : (between : List (Numbered E)) × (w.seen ≡ (v.seen ++ between) ++ numbered v.number e ∷ [])
      pub legal : IsLegalFrom w.opening w.seen
      pub mine : w.mine ≡ v.mine ++ e ∷ []
      pub own : calls_by w.number w.seen ≡ w.mine

    -- After a look the seat has seen one legal history, which begins with all that it had seen, and has exactly the
    -- seat's calls under its number.
    pub record Sees (v w : Sight S E) : Type 0 where
      pub same : IsSame v w
      pub seen : StartsWith w.seen v.seen
      pub legal : IsLegalFrom w.opening w.seen
      pub mine : w.mine ≡ v.mine
      pub own : calls_by w.number w.seen ≡ w.mine

    -- The seat has seen one legal history, which begins with what each of the two had seen, and has exactly the calls
    -- of each under its number. Any two seats of a turn may be joined, and had different numbers.
    pub record Joins (v other w : Sight S E) : Type 0 where
      pub sees : Sees v w
      pub seen : StartsWith w.seen other.seen
      pub own : calls_by other.number w.seen ≡ other.mine
      pub apart : other.number ≢ v.number

    -- One legal history leads to the state. It begins with what the seat had seen, and has exactly the seat's calls
    -- under its number.
    pub record Closes (v : Sight S E) (state : S) : Type 0 where
      pub opening : S
      pub opening_is : v.opening ≡ Some opening
      pub history : List (Numbered E)
      pub leads : HistoryLeads allows opening history state
      pub seen : StartsWith history v.seen
      pub own : calls_by v.number history ≡ v.mine
