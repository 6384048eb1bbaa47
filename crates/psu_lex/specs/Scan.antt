-- Definitions for the contracts inside this crate: what a scan has found so far.
use Rattle.std.specs.Prelude.{ℕ, ◌+◌, ◌-◌, ◌==◌, ◌||◌, ◌&&◌, nat_lt, nat_le, Bool, true, false, List, [], ◌∷◌, length, take, drop, slice_index, Option, Some, None, if◌then◌else◌}
use Rattle.std.specs.List.{list_any}
use Rattle.psu_lex.specs.Bytes.{all_digits, ends_in_newline, is_quote, opens, separates, starts_quoted, value_after}

-- some byte passes the test
abbrev pub has : (ℕ → Bool) → List ℕ → Bool
has test bytes = list_any test bytes

-- the byte ends a unit, or begins a string or a block
abbrev pub stops : ℕ → Bool
stops b = separates b || opens b

-- the first byte ends a unit or begins a string or a block, or no byte is left
abbrev pub stops_first : List ℕ → Bool
stops_first [] = true
stops_first (x ∷ xs) = stops x

-- ---- strings and blocks

-- what follows a string, from after its opening quote; where a quote was `seen` last, it ends the string unless it is
-- doubled
abbrev pub after_string : Bool → ℕ → List ℕ → Option (List ℕ)
after_string true q [] = Some []
after_string false q [] = None
after_string true q (x ∷ xs) = if x == q then after_string false q xs else Some (x ∷ xs)
after_string false q (x ∷ xs) = if x == q then after_string true q xs else (if x == 10 then None else after_string false q xs)

-- the bytes with each doubled quote once, where the `second` of two quotes may come first
abbrev pub single : Bool → ℕ → List ℕ → List ℕ
single second q [] = []
single second q (x ∷ xs) = if second then single false q xs else x ∷ single (x == q) q xs

-- what follows n digits and as many bytes as they denote
abbrev pub after_counted : ℕ → List ℕ → Option (List ℕ)
after_counted n text =
    if nat_le n (length text) && (all_digits (take n text) && nat_le (value_after 0 (take n text)) (length (drop n text))) then Some (drop (n + value_after 0 (take n text)) text)
    else None

-- what follows a block, from after its `#`
abbrev pub after_block : List ℕ → Option (List ℕ)
after_block [] = None
after_block (x ∷ xs) =
    if x == 48 then Some (drop (if ends_in_newline xs then length xs else length (x ∷ xs)) (x ∷ xs))
    else (if nat_lt x 49 || nat_lt 57 x then None else after_counted (x - 48) xs)

-- what follows the string or block that the text begins with
abbrev pub after_piece : List ℕ → Option (List ℕ)
after_piece [] = None
after_piece (x ∷ xs) = if x == 35 then after_block xs else (if is_quote x then after_string false x xs else None)

-- no bytes remain
abbrev pub is_spent : Option (List ℕ) → Bool
is_spent None = false
is_spent (Some more) = length more == 0

-- the text is one whole string, and the content between its quotes
abbrev pub is_string : List ℕ → Bool
is_string text = starts_quoted text && is_spent (after_piece text)

abbrev pub quoted : List ℕ → List ℕ
quoted text = single false (slice_index text 0) (take (length text - 1 - 1) (drop 1 text))
