-- Releases whose wait is over.
use Rattle.std.proofs.Common.{◌≡◌, ℕ, Bool, true, false, if◌then◌else◌, List, [], ◌∷◌, refl}
use Rattle.psu_session.specs.State.{Release, ReleaseLock, due, is_due, orders_in}

either : (all : Bool) (now last : ℕ) (releases : List Release) (b : Bool) → orders_in (due all now last releases) ≡ [] → orders_in (if b then ReleaseLock ∷ due all now last releases else []) ≡ []
either all now last releases true none = none
either all now last releases false none = refl

-- they contain no transmission
pub none_due : (all : Bool) (now last : ℕ) (releases : List Release) → orders_in (due all now last releases) ≡ []
none_due all now last [] = refl
none_due all now last (release ∷ releases) = either all now last releases (is_due all now last release) (none_due all now last releases)
