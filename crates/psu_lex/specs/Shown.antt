-- The model of the code's values: headers, data and numbers, with their texts as lists.
use Rattle.std.specs.Prelude.{◌≡◌, ℕ, Bool, true, false, List, [], ◌∷◌, Option, Some, None, Result, Ok, Err}
use Rattle.psu_lex.specs.Number.{Sign, Exponent, Number, fraction_digits}
use Rattle.psu_lex.specs.Number.Sign.{Plus, Minus, Unsigned}
use Rattle.psu_lex.specs.Syntax.{HeaderParts, IsHeader, header_text, path_text, Datum, IsDatum, Lists, Syntax, datum_of}
use Rattle.psu_lex.specs.declared.data.Data as rust_data
use Rattle.psu_lex.specs.declared.data.Datum as rust_datum
use Rattle.psu_lex.specs.declared.data.Found as rust_found
use Rattle.psu_lex.specs.declared.unit.UnitHeader as rust_header
use Rattle.psu_lex.specs.declared.unit.Syntax as rust
use Rattle.psu_lex.specs.declared.written.Written as rust_written
use Rattle.psu_lex.specs.declared.scpi_error.ScpiError.{ScpiError}

-- ---- headers

-- the code's header has these parts
pub record ShowsHeader (shown : rust_header.UnitHeader) (h : HeaderParts) : Type 0 where
  pub text : shown.text.now ≡ header_text h
  pub mark : shown.mark ≡ h.mark
  pub nodes : shown.nodes.now ≡ path_text h
  pub asks : shown.asks ≡ h.asks

-- ---- data

-- the text after a datum: empty, or a `,` and the other data
abbrev pub TailLists : List ℕ → List Datum → Type 0
TailLists tail [] = tail ≡ []
TailLists tail (datum ∷ list) = (rest : List ℕ) × (tail ≡ 44 ∷ rest) × Lists rest (datum ∷ list)

-- it is a datum when some text follows it
abbrev pub IsSomeDatum : Datum → Type 0
IsSomeDatum datum = (more : List ℕ) × IsDatum datum.class datum.text more

-- a first datum that was found, with the text after it, begins this list
abbrev pub HoldsFound : Option rust_found.Found → List Datum → Type 0
HoldsFound None list = list ≡ []
HoldsFound (Some found) list =
    (others : List Datum) × (list ≡ datum_of found.datum ∷ others) × IsSomeDatum (datum_of found.datum) × TailLists found.tail.now others

-- the code's data have this list
abbrev pub HoldsData : rust_data.Data → List Datum → Type 0
HoldsData shown list = HoldsFound shown.found list

-- the first datum of a list, and the others
abbrev pub FirstIs : Option (rust_datum.Datum × rust_data.Data) → List Datum → Type 0
FirstIs None list = list ≡ []
FirstIs (Some first) list =
    (others : List Datum) × (list ≡ datum_of first.0 ∷ others) × IsSomeDatum (datum_of first.0) × HoldsData first.1 others

-- ---- units

-- the code's syntax has these parts
abbrev pub ShowsSyntax : rust.Syntax → Syntax → Type 0
ShowsSyntax shown syntax =
    (h : HeaderParts) × IsHeader h × (syntax.header ≡ header_text h) × ShowsHeader shown.header h × HoldsData shown.parameters syntax.parameters

-- the code's result is this result
abbrev pub Shows : Result rust.Syntax ScpiError → Result Syntax ScpiError → Type 0
Shows (Ok shown) (Ok syntax) = ShowsSyntax shown syntax
Shows (Err shown) (Err error) = shown ≡ error
Shows (Ok shown) (Err error) = ⊥
Shows (Err shown) (Ok syntax) = ⊥

-- ---- numbers

abbrev pub is_minus : Sign → Bool
is_minus Plus = false
is_minus Minus = true
is_minus Unsigned = false

abbrev pub divides : Option Exponent → Bool
divides None = false
divides (Some e) = is_minus e.sign

abbrev pub power_digits : Option Exponent → List ℕ
power_digits None = []
power_digits (Some e) = e.digits

-- the code's number has these parts
pub record ShowsNumber (shown : rust_written.Written) (n : Number) : Type 0 where
  pub negative : shown.negative ≡ is_minus n.sign
  pub whole : shown.whole.now ≡ n.whole
  pub fraction : shown.fraction.now ≡ fraction_digits n.fraction
  pub divides : shown.power.divides ≡ divides n.exponent
  pub digits : shown.power.digits.now ≡ power_digits n.exponent
  pub suffix : shown.suffix.now ≡ n.suffix
