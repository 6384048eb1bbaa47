-- A seat as callers see it, from what it knows.
use Rattle.std.specs.Prelude.{◌≡◌, ℕ, ◌+◌, ◌^◌, nat_le, ◌==◌, ◌&&◌, Bool, true, false, List, [], ◌∷◌, Option, Some, None, is_some}
use Rattle.psu_turn.specs.Turns.{TurnId}
use Rattle.atomic_table.specs.declared.shared.Seat.{Seat}
use Rattle.psu_turn.specs.declared.counted_object.CountedObject.{CountedObject}
use Rattle.psu_turn.specs.declared.view.View.{View}
use Rattle.psu_turn.specs.declared.stage.Stage.{Stage}
use Rattle.psu_turn.specs.declared.stage.Stage.TheVariants.{Idle, Waiting, Called, Out, Done}
use Rattle.psu_turn.specs.declared.name.Name.{Name}
use Rattle.psu_turn.specs.declared.name.Name.TheVariants.{Spent, Unnamed, Named}
use Rattle.psu_turn.specs.declared.inherited.Inherited.{Inherited}
use Rattle.psu_turn.specs.declared.inherited.Inherited.TheVariants.{Nothing, From}
use Rattle.psu_turn.specs.Seats.{Sight}
use Rattle.psu_turn.specs.Steps.{Sat}

abbrev pub number_of : Name → ℕ
number_of Spent = 0
number_of (Unnamed k) = k
number_of (Named k) = k

module _ {S E : Type 0} where
  abbrev pub sight : TurnId → View S E → Sight S E
  sight z v = record { turn = z; number = number_of v.name; opening = v.opening; seen = v.seen; mine = v.mine }

  -- the sight of what a badge has: one view, or none while a call is being made with the seat
  abbrev pub sight_of : TurnId → List (View S E) → Sight S E
  sight_of z [] = record { turn = z; number = 0; opening = None; seen = []; mine = [] }
  sight_of z (v ∷ vs) = sight z v

  -- it has a number, and no ticket
  pub record IsIdle (v : View S E) : Type 0 where
    pub opening : S
    pub opened : v.opening ≡ Some opening
    pub named : v.name ≡ Named (number_of v.name)
    pub idle : v.stage ≡ Idle
    pub alone : v.inherited ≡ Nothing

  -- a seat that makes no call
  abbrev pub IsAtRest : List (View S E) → Type 0
  IsAtRest [] = Unit {0}
  IsAtRest (v ∷ vs) = IsIdle v × (vs ≡ [])

-- the state in which the object was taken
abbrev pub state_out : {S : Type 0} → Stage S → Option S
state_out Idle = None
state_out (Waiting t) = None
state_out (Called t) = None
state_out (Out t x c) = Some x
state_out (Done t x c) = None

abbrev pub is_named : Name → Bool
is_named Spent = false
is_named (Unnamed k) = false
is_named (Named k) = true

-- the object was taken under this ticket, after so many calls; no more calls were made than tickets served, of which
-- there are 2 ^ 62
abbrev pub has_taken : {S : Type 0} → ℕ → ℕ → Stage S → Bool
has_taken ticket count Idle = false
has_taken ticket count (Waiting t) = false
has_taken ticket count (Called t) = false
has_taken ticket count (Out t x c) = (t == ticket) && (c == count) && nat_le c t && nat_le (t + 1) (2 ^ 62)
has_taken ticket count (Done t x c) = false

abbrev pub is_alone : {E : Type 0} → Inherited E → Bool
is_alone Nothing = true
is_alone (From k seen mine) = false

-- the seat has slot 0, and there is nothing in it
abbrev pub has_slot : {T : Type 0} → List (ℕ × Option (CountedObject T)) → Bool
has_slot [] = false
has_slot ((k, None) ∷ []) = k == 0
has_slot ((k, Some h) ∷ []) = false
has_slot (x ∷ y ∷ slots) = false

module _ {T S E : Type 0} where
  -- a seat at the table that is to make a call
  abbrev pub IsReady : Sat T S E → Type 0
  IsReady m = IsIdle m.0 × (m.1 ≡ [])

  -- a seat that has taken the object from its slot, under this ticket and after so many calls
  abbrev pub is_out : ℕ → ℕ → Sat T S E → Bool
  is_out ticket count m = is_some m.0.opening && is_named m.0.name && has_taken ticket count m.0.stage && is_alone m.0.inherited && has_slot m.1

  -- q is the seat p, with the view and the slots of p
  pub record Stays (p q : Seat (Option (CountedObject T)) (View S E)) : Type 0 where
    pub turn : q.table_id ≡ p.table_id
    pub id : q.id ≡ p.id
    pub me : q.me ≡ p.me
