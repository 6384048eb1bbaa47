-- The text of a response message: the responses of its units, joined by `;` and ended by NL. Source: IEEE 488.2, 8.4.
use Rattle.std.specs.Prelude.{ℕ, Bool, true, false, List, [], ◌∷◌, ◌++◌}

-- the responses of a message's units, joined
abbrev pub joined : List (List ℕ) → List ℕ
joined [] = []
joined (one ∷ []) = one
joined (one ∷ two ∷ more) = one ++ 59 ∷ joined (two ∷ more)

-- whether a unit of the message has responded
abbrev pub are_some : List (List ℕ) → Bool
are_some [] = false
are_some (one ∷ more) = true

-- NL ends a text that has responses
abbrev pub end_of : Bool → List ℕ
end_of true = 10 ∷ []
end_of false = []

-- the response message of units with these responses; without a response nothing is sent
abbrev pub response : List (List ℕ) → List ℕ
response answers = joined answers ++ end_of (are_some answers)
