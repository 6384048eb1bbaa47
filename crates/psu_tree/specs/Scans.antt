-- What the code examines in its way through a word.
use Rattle.std.specs.Prelude.{ℕ, zero, suc, slice_index, ◌==◌, ◌&&◌, not, Bool, false, List, [], ◌∷◌, if◌then◌else◌}
use Rattle.psu_lex.specs.Bytes.{is_digit}
use Rattle.psu_tree.specs.Headers.{Mnemonic, capital, in_brackets, is_small}

-- the byte before a position is a digit
abbrev pub digit_before : List ℕ → ℕ → Bool
digit_before word zero = false
digit_before word (suc k) = is_digit (slice_index word k)

-- the first byte of the first word, as a capital; 0 where there is none
abbrev pub first_letter : List (List ℕ) → ℕ
first_letter [] = 0
first_letter ([] ∷ words) = 0
first_letter ((x ∷ word) ∷ words) = capital x

-- the second byte of the first word, as a capital; 0 where there is none
abbrev pub second_letter : List (List ℕ) → ℕ
second_letter [] = 0
second_letter ([] ∷ words) = 0
second_letter ((x ∷ []) ∷ words) = 0
second_letter ((x ∷ y ∷ word) ∷ words) = capital y

-- a mnemonic begins with a capital other than this letter
abbrev pub begins_apart : ℕ → List ℕ → Bool
begins_apart letter [] = false
begins_apart letter (x ∷ name) = not (is_small x) && not (x == letter)

-- a required node with such a mnemonic: no word of this first letter names it
abbrev pub is_apart : ℕ → Mnemonic → Bool
is_apart letter node = not (in_brackets node.kind) && begins_apart letter node.name

abbrev pub rows_apart : ℕ → List Mnemonic → Bool
rows_apart letter [] = false
rows_apart letter (node ∷ nodes) = is_apart letter node

-- the text up to the first `:`, and the text from it on
abbrev pub node_of : List ℕ → List ℕ
node_of [] = []
node_of (x ∷ xs) = if x == 58 then [] else x ∷ node_of xs

abbrev pub after_node : List ℕ → List ℕ
after_node [] = []
after_node (x ∷ xs) = if x == 58 then x ∷ xs else after_node xs
