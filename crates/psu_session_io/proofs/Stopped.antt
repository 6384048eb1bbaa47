-- How a step ends that was not completed.
use Rattle.std.proofs.Common.{◌≡◌, ◌⊎◌, Bool, true, false, inl, inr, refl, Ok, Err}
use Rattle.std.specs.Prelude.{Result, OnErr}

-- a session that is over does nothing, and another one stops
pub over_or : {A B : Type 0} (over : Bool) → (over ≡ true → A) → (over ≡ false → B) → A ⊎ B
over_or true over stops = inl (over refl)
over_or false over stops = inr (stops refl)

pub not_completed : {A B C : Type 0} → A ⊎ B → A ⊎ B ⊎ C
not_completed (inl none) = inl none
not_completed (inr some) = inr (inl some)

-- what holds of an error implies something else of it
pub of_error : {T E A B : Type 0} (result : Result T E) → (A → B) → OnErr result A → OnErr result B
of_error (Ok value) implies holds = tt
of_error (Err error) implies holds = implies holds

-- what holds anyway
pub on_error : {T E P : Type 0} (result : Result T E) → P → OnErr result P
on_error (Ok value) holds = tt
on_error (Err error) holds = holds
