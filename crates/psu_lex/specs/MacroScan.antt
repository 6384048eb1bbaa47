-- Definitions for the contracts inside this crate: what the scan of a macro body has found.
use Rattle.std.specs.Prelude.{◌≡◌, ℕ, ◌==◌, ◌&&◌, Bool, false, List, [], ◌∷◌, ◌++◌, take, drop}
use Rattle.psu_lex.specs.Message.{Token, Reads}
use Rattle.psu_lex.specs.Macros.{is_placeholder, expansion, greatest, anything}

abbrev pub begins_placeholder : List ℕ → Bool
begins_placeholder [] = false
begins_placeholder (x ∷ []) = false
begins_placeholder (x ∷ y ∷ xs) = x == 36 && is_placeholder y

-- the bytes have this greatest placeholder, and expand to this text
abbrev pub Spells : List (List ℕ) → List ℕ → ℕ → List ℕ → Type 0
Spells args bytes most text =
    (tokens : List Token) × Reads anything bytes tokens × (most ≡ greatest false tokens) × (text ≡ expansion args false tokens)

-- the first n bytes are copied unchanged
abbrev pub Keeps : List ℕ → ℕ → Type 0
Keeps bytes n =
    (args : List (List ℕ)) (most : ℕ) (text : List ℕ) → Spells args (drop n bytes) most text → Spells args bytes most (take n bytes ++ text)

-- the first n bytes expand to the piece
abbrev pub Puts : List (List ℕ) → List ℕ → ℕ → List ℕ → Type 0
Puts args bytes n piece =
    (most : ℕ) (text : List ℕ) → Spells args (drop n bytes) most text → (all : ℕ) × Spells args bytes all (piece ++ text)
