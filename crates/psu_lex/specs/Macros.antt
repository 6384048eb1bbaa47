-- Macros: the expansion of a body with its parameters. Source: IEEE 488.2, 10.8 (`*DMC`, placeholders).
use Rattle.std.specs.Prelude.{◌≡◌, ℕ, ◌-◌, ◌==◌, ◌&&◌, nat_lt, max, Bool, true, false, List, [], ◌∷◌, ◌++◌, length, slice_index_or, Result, Ok, Err, if◌then◌else◌}
use Rattle.psu_lex.specs.Message.{Token, text_of, Reads}
use Rattle.psu_lex.specs.Message.Token.{Byte}
use Rattle.psu_lex.specs.declared.scpi_error.ScpiError.{ScpiError}
use Rattle.psu_lex.specs.declared.scpi_error.ScpiError.TheVariants.{MacroParameterError, TooMuchData}

-- `1` to `9`: after a `$` it denotes a parameter
abbrev pub is_placeholder : ℕ → Bool
is_placeholder b = nat_lt 48 b && nat_lt b 58

-- the parameter at this index, counted from 0; a missing one is empty
abbrev pub parameter : List (List ℕ) → ℕ → List ℕ
parameter args k = slice_index_or args k []

-- the body with its parameters put in, where a pending `$` may precede it; strings and blocks are unchanged, and so is
-- a `$` before anything but a placeholder
abbrev pub expansion : List (List ℕ) → Bool → List Token → List ℕ
expansion args true [] = 36 ∷ []
expansion args false [] = []
expansion args true (Byte b ∷ tokens) =
    if is_placeholder b then parameter args (b - 49) ++ expansion args false tokens
    else 36 ∷ (if b == 36 then expansion args true tokens else b ∷ expansion args false tokens)
expansion args false (Byte b ∷ tokens) = if b == 36 then expansion args true tokens else b ∷ expansion args false tokens
expansion args true (token ∷ tokens) = 36 ∷ (text_of token ++ expansion args false tokens)
expansion args false (token ∷ tokens) = text_of token ++ expansion args false tokens

-- the greatest placeholder, 0 where there is none
abbrev pub greatest : Bool → List Token → ℕ
greatest dollar [] = 0
greatest true (Byte b ∷ tokens) = if is_placeholder b then max (b - 48) (greatest false tokens) else greatest (b == 36) tokens
greatest false (Byte b ∷ tokens) = greatest (b == 36) tokens
greatest dollar (token ∷ tokens) = greatest false tokens

-- anything may follow a string or a block in a body
abbrev pub anything : List ℕ → Bool
anything bytes = true

-- the result of the tokens of a body: the number of parameters has to equal the greatest placeholder, and an expansion
-- has at most 65,536 bytes
abbrev pub outcome : List (List ℕ) → List Token → Result (List ℕ) ScpiError
outcome args tokens =
    if greatest false tokens == length args then (if nat_lt 65536 (length (expansion args false tokens)) then Err TooMuchData
    else Ok (expansion args false tokens))
    else Err MacroParameterError

-- the result of a body
abbrev pub ExpandsTo : List ℕ → List (List ℕ) → Result (List ℕ) ScpiError → Type 0
ExpandsTo body args result = (tokens : List Token) × Reads anything body tokens × (result ≡ outcome args tokens)
