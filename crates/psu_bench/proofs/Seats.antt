-- A seat of a turn, from two facts that have one proof each.
use Rattle.std.proofs.Common.{◌≡◌, true, Option, Some, None, refl}
use Rattle.std.specs.Prelude.{is_some}
use Rattle.psu_turn.specs.Turns.{TurnId}
use Rattle.psu_turn.specs.Seats.{Sight, IsOf}

opened : {S : Type 0} (o : Option S) → is_some o ≡ true → (opening : S) × (o ≡ Some opening)
opened (Some x) t = (x, refl)
opened None t = absurd (cc)

pub is_of : {S E : Type 0} (turn : TurnId) (v : Sight S E) → v.turn ≡ turn → is_some v.opening ≡ true → IsOf turn v
is_of turn v same here = (same, opened v.opening here)
