-- Releases that wait for a message.
use Rattle.std.specs.Prelude.{ℕ, ◌+◌, min, Bool, false, Option, Some, None, List, [], ◌∷◌}
use Rattle.psu_session.specs.State.{Release, is_due}

-- the wait of the first release is over
abbrev pub is_first_due : Bool → ℕ → ℕ → List Release → Bool
is_first_due all now last [] = false
is_first_due all now last (release ∷ releases) = is_due all now last release

-- when the wait of the first release is over at the latest: a tenth of a second after its request, in milliseconds
abbrev pub due_at : List Release → Option ℕ
due_at [] = None
due_at (release ∷ releases) = Some (min (release.requested_at + 100) 18446744073709551615)
