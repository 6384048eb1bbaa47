-- Messages: the strings and blocks in a list of bytes, its tokens, and its units. Source: IEEE 488.2, 7.3 to 7.5
-- (units, separators, terminators), 7.7.5 (strings), 7.7.6 (blocks).
use Rattle.std.specs.Prelude.{◌≡◌, ◌⊎◌, ℕ, ◌+◌, ◌<◌, ◌==◌, ◌||◌, ◌&&◌, Bool, true, false, List, [], ◌∷◌, ◌++◌, length, Option, Some, None, if◌then◌else◌}
use Rattle.psu_lex.specs.Bytes.{separates, is_quote, opens, all_white, all_digits, has_newline, starts, ends_in_newline, value_after, is_closed}
use Rattle.psu_lex.specs.declared.unit.Unit as rust
use Rattle.psu_lex.specs.declared.unit.UnitFault.{UnitFault}
use Rattle.psu_lex.specs.declared.unit.UnitFault.TheVariants.{String, Block}

-- ---- strings and blocks

-- a string with its quote, a block of definite length with its length digits, a block up to END
pub data Piece : Type 0 where
  Quoted : ℕ → List ℕ → Piece
  Counted : List ℕ → List ℕ → Piece
  Open : List ℕ → Piece

-- the content with each quote doubled
abbrev pub doubled : ℕ → List ℕ → List ℕ
doubled q [] = []
doubled q (x ∷ xs) = x ∷ (if x == q then q ∷ doubled q xs else doubled q xs)

abbrev pub spelling : Piece → List ℕ
spelling (Quoted q content) = q ∷ (doubled q content ++ q ∷ [])
spelling (Counted digits content) = 35 ∷ (48 + length digits) ∷ (digits ++ content)
spelling (Open content) = 35 ∷ 48 ∷ content

-- the piece is whole when followed by `more`, up to END
abbrev pub IsWhole : Piece → List ℕ → Type 0
IsWhole (Quoted q content) more = (is_quote q ≡ true) × (has_newline content ≡ false) × (starts q more ≡ false)
IsWhole (Counted digits content) more =
    (0 < length digits) × (length digits < 10) × (all_digits digits ≡ true) × (length content ≡ value_after 0 digits)
IsWhole (Open content) more = ((more ≡ []) × (ends_in_newline content ≡ false)) ⊎ (more ≡ 10 ∷ [])

-- the text is the rest of a string, after its opening quote, followed by `more`
abbrev pub EndsString : ℕ → List ℕ → List ℕ → Type 0
EndsString q text more =
    (content : List ℕ) × (text ≡ doubled q content ++ q ∷ more) × (has_newline content ≡ false) × (starts q more ≡ false)

-- the text is a whole piece followed by `more`
abbrev pub BeginsPiece : List ℕ → List ℕ → Type 0
BeginsPiece text more = (piece : Piece) × (text ≡ spelling piece ++ more) × IsWhole piece more

-- ---- the tokens of a list of bytes

-- a byte outside strings and blocks, a separator, a whole string or block, or a faulty one with everything up to END
pub data Token : Type 0 where
  Byte : ℕ → Token
  Separator : ℕ → Token
  Whole : Piece → Token
  Faulty : List ℕ → Token

abbrev pub text_of : Token → List ℕ
text_of (Byte b) = b ∷ []
text_of (Separator b) = b ∷ []
text_of (Whole piece) = spelling piece
text_of (Faulty text) = text

-- the text does not begin with a whole piece followed by what may follow it
abbrev pub HasNoPiece : (List ℕ → Bool) → List ℕ → Type 0
HasNoPiece may_follow text = (more : List ℕ) → BeginsPiece text more → may_follow more ≡ true → ⊥

abbrev pub opens_first : List ℕ → Bool
opens_first [] = false
opens_first (x ∷ xs) = opens x

-- the token is valid when followed by `more`
abbrev pub IsValidBefore : (List ℕ → Bool) → Token → List ℕ → Type 0
IsValidBefore may_follow (Byte b) more = (separates b ≡ false) × (opens b ≡ false)
IsValidBefore may_follow (Separator b) more = separates b ≡ true
IsValidBefore may_follow (Whole piece) more = IsWhole piece more × (may_follow more ≡ true)
IsValidBefore may_follow (Faulty text) more = (more ≡ []) × (opens_first text ≡ true) × HasNoPiece may_follow text

-- the bytes are these tokens concatenated
abbrev pub Reads : (List ℕ → Bool) → List ℕ → List Token → Type 0
Reads may_follow bytes [] = bytes ≡ []
Reads may_follow bytes (token ∷ tokens) =
    (more : List ℕ) × (bytes ≡ text_of token ++ more) × IsValidBefore may_follow token more × Reads may_follow more tokens

-- ---- units

-- a unit as written; whether it is the first of its message; its fault
pub record Part : Type 0 where
  pub text : List ℕ
  pub first : Bool
  pub fault : Option UnitFault

abbrev pub fault_of : List ℕ → UnitFault
fault_of text = if starts 35 text then Block else String

-- the unit that ends here, unless it is white space alone
abbrev pub ended : Bool → List ℕ → List Part
ended first text = if all_white text then [] else record { text = text; first = first; fault = None } ∷ []

-- a unit is the first of its message after NL, and after units that are white space alone
abbrev pub next_first : Bool → List ℕ → ℕ → Bool
next_first first text separator = separator == 10 || (first && all_white text)

-- the units of the tokens, where `text` is the begun unit so far
abbrev pub units_of : Bool → List ℕ → List Token → List Part
units_of first text [] = ended first text
units_of first text (Byte b ∷ tokens) = units_of first (text ++ b ∷ []) tokens
units_of first text (Whole piece ∷ tokens) = units_of first (text ++ spelling piece) tokens
units_of first text (Separator b ∷ tokens) = ended first text ++ units_of (next_first first text b) [] tokens
units_of first text (Faulty rest ∷ tokens) =
    record { text = text ++ rest; first = first; fault = Some (fault_of rest) } ∷ []

-- the bytes that follow the text of a begun unit give these units
abbrev pub MakesUnits : Bool → List ℕ → List ℕ → List Part → Type 0
MakesUnits first text bytes units = (tokens : List Token) × Reads is_closed bytes tokens × (units ≡ units_of first text tokens)

-- a unit ends before these bytes
abbrev pub ends_unit : List ℕ → Bool
ends_unit [] = true
ends_unit (x ∷ xs) = separates x

-- the units of a transmission
abbrev pub IsMessage : List ℕ → List Part → Type 0
IsMessage bytes units = MakesUnits true [] bytes units

-- the last of the bytes
abbrev pub EndsIn : List ℕ → List ℕ → Type 0
EndsIn bytes rest = (read : List ℕ) × (bytes ≡ read ++ rest)

-- a unit of the code, with its text as a list
abbrev pub part : rust.Unit → Part
part unit = record { text = unit.text.now; first = unit.first; fault = unit.fault }
