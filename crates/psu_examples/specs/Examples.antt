-- The examples of a guide. Their form is this project's own.
use Rattle.std.specs.Prelude.{ℕ, ◌+◌, ◌==◌, ◌&&◌, Bool, false, List, [], ◌∷◌, ◌++◌, if◌then◌else◌, codes}
use Rattle.std.specs.Str.{bytes_eq}

-- An example: the line at which it begins, the text that is sent, and the response.
pub record Shown : Type 0 where
  pub line : ℕ
  pub sent : List ℕ
  pub answered : List ℕ

-- the lines with a byte prepended to the first of them
abbrev pub first_onto : ℕ → List (List ℕ) → List (List ℕ)
first_onto x [] = (x ∷ []) ∷ []
first_onto x (line ∷ lines) = (x ∷ line) ∷ lines

-- the lines of a text; the last may lack its line feed
abbrev pub lines_of : List ℕ → List (List ℕ)
lines_of [] = []
lines_of (x ∷ xs) = if x == 10 then [] ∷ lines_of xs else first_onto x (lines_of xs)

-- a line ends a block
abbrev pub is_end : List ℕ → Bool
is_end line = bytes_eq line (codes "```")

-- a line of the text begins an example
abbrev pub begins_example : List ℕ → Bool
begins_example line = bytes_eq line (codes "```scpi")

-- a line of the text begins a block
abbrev pub begins_block : List ℕ → Bool
begins_block (a ∷ b ∷ c ∷ rest) = (a == 96) && (b == 96) && (c == 96)
begins_block line = false

-- what a line of an example sends: the text after `> `
abbrev pub sent_by : List ℕ → List ℕ
sent_by (a ∷ b ∷ line) = if (a == 62) && (b == 32) then line ++ 10 ∷ [] else []
sent_by line = []

-- what a line of an example contributes to the response: itself, where it does not begin with `> `
abbrev pub answered_by : List ℕ → List ℕ
answered_by (a ∷ b ∷ line) = if (a == 62) && (b == 32) then [] else (a ∷ b ∷ line) ++ 10 ∷ []
answered_by line = line ++ 10 ∷ []

-- what the lines of an example send, up to its end
abbrev pub sent_in : List (List ℕ) → List ℕ
sent_in [] = []
sent_in (line ∷ lines) = if is_end line then [] else sent_by line ++ sent_in lines

-- the response in the lines of an example, up to its end
abbrev pub answered_in : List (List ℕ) → List ℕ
answered_in [] = []
answered_in (line ∷ lines) = if is_end line then [] else answered_by line ++ answered_in lines

-- the place of a line: in the text, in a block that is not an example, or in an example
pub data Where : Type 0 where
  Text : Where
  Block : Where
  Inside : Where

-- the examples that begin in these lines, of which the first has this number
abbrev pub examples : Where → ℕ → List (List ℕ) → List Shown
examples w number [] = []
examples Where.Text number (line ∷ lines) =
    if begins_example line
    then (record { line = number; sent = sent_in lines; answered = answered_in lines }) ∷ examples Where.Inside (number + 1) lines
    else (if begins_block line then examples Where.Block (number + 1) lines else examples Where.Text (number + 1) lines)
examples Where.Block number (line ∷ lines) =
    if is_end line then examples Where.Text (number + 1) lines else examples Where.Block (number + 1) lines
examples Where.Inside number (line ∷ lines) =
    if is_end line then examples Where.Text (number + 1) lines else examples Where.Inside (number + 1) lines

-- the examples of a guide
abbrev pub examples_in : List ℕ → List Shown
examples_in guide = examples Where.Text 1 (lines_of guide)
