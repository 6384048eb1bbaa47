-- The syntax of a unit: its header, and its data.
-- Sources: IEEE 488.2, 7.3 (units), 7.6 (headers), 7.7 (data); SCPI-1999 volume 1, 6.2 (headers of several nodes).
use Rattle.std.specs.Prelude.{◌≡◌, ◌⊎◌, ℕ, ◌==◌, ◌||◌, ◌&&◌, nat_lt, Bool, true, false, List, [], ◌∷◌, ◌++◌, Option, Some, None, Result, Ok, Err, if◌then◌else◌}
use Rattle.psu_lex.specs.Bytes.{is_white, is_digit, is_letter, all_white, is_closed}
use Rattle.psu_lex.specs.Number.{Number, IsNumber, number_text}
use Rattle.psu_lex.specs.Message.{Piece, spelling, IsWhole, Token, Reads, Part}
use Rattle.psu_lex.specs.Message.Piece.{Quoted, Counted, Open}
use Rattle.psu_lex.specs.Message.Token.{Byte}
use Rattle.psu_lex.specs.declared.data.DatumClass.{DatumClass}
use Rattle.psu_lex.specs.declared.data.DatumClass.TheVariants.{Numeric, Character, String, Block}
use Rattle.psu_lex.specs.declared.data.Datum as rust
use Rattle.psu_lex.specs.declared.unit.HeaderMark.{HeaderMark}
use Rattle.psu_lex.specs.declared.unit.HeaderMark.TheVariants.{Star, Colon, Bare}
use Rattle.psu_lex.specs.declared.scpi_error.ScpiError.{ScpiError}
use Rattle.psu_lex.specs.declared.scpi_error.ScpiError.TheVariants.{InvalidCharacter, InvalidStringData, InvalidBlockData, SyntaxError}
use Rattle.psu_lex.specs.declared.unit.UnitFault.{UnitFault}
use Rattle.psu_lex.specs.declared.unit.UnitFault.TheVariants as fault

-- ---- headers

-- a letter, a digit or `_`
abbrev pub is_name_byte : ℕ → Bool
is_name_byte b = is_letter b || is_digit b || b == 95

abbrev pub all_name : List ℕ → Bool
all_name [] = true
all_name (x ∷ xs) = is_name_byte x && all_name xs

-- a letter, and then letters, digits or `_`
abbrev pub is_node : List ℕ → Bool
is_node [] = false
is_node (x ∷ xs) = is_letter x && all_name xs

abbrev pub all_nodes : List (List ℕ) → Bool
all_nodes [] = true
all_nodes (n ∷ ns) = is_node n && all_nodes ns

abbrev pub mark_text : HeaderMark → List ℕ
mark_text Star = 42 ∷ []
mark_text Colon = 58 ∷ []
mark_text Bare = []

-- the mark, the first node, the nodes after it, and whether the header ends with `?`
pub record HeaderParts : Type 0 where
  pub mark : HeaderMark
  pub node : List ℕ
  pub nodes : List (List ℕ)
  pub asks : Bool

-- each node preceded by a `:`
abbrev pub behind : List (List ℕ) → List ℕ
behind [] = []
behind (n ∷ ns) = 58 ∷ (n ++ behind ns)

abbrev pub ask_text : Bool → List ℕ
ask_text asks = if asks then 63 ∷ [] else []

abbrev pub header_text : HeaderParts → List ℕ
header_text h = mark_text h.mark ++ (h.node ++ (behind h.nodes ++ ask_text h.asks))

-- the nodes, separated by `:`
abbrev pub path_text : HeaderParts → List ℕ
path_text h = h.node ++ behind h.nodes

-- a header with mark `*` has only one node
pub record IsHeader (h : HeaderParts) : Type 0 where
  pub node : is_node h.node ≡ true
  pub nodes : all_nodes h.nodes ≡ true
  pub common : h.mark ≡ Star → h.nodes ≡ []

-- the text is a header
abbrev pub SpellsHeader : List ℕ → Type 0
SpellsHeader text = (h : HeaderParts) × IsHeader h × (text ≡ header_text h)

-- ---- data

-- a datum as written
pub record Datum : Type 0 where
  pub class : DatumClass
  pub text : List ℕ

abbrev pub class_of : Piece → DatumClass
class_of (Quoted q content) = String
class_of (Counted digits content) = Block
class_of (Open content) = Block

-- the string or block is whole when followed by more of its unit; one up to END takes the rest of the unit
abbrev pub IsWholeIn : Piece → List ℕ → Type 0
IsWholeIn (Quoted q content) more = IsWhole (Quoted q content) more
IsWholeIn (Counted digits content) more = IsWhole (Counted digits content) more
IsWholeIn (Open content) more = more ≡ []

abbrev pub ends_in_white : List ℕ → Bool
ends_in_white [] = false
ends_in_white (x ∷ []) = is_white x
ends_in_white (x ∷ y ∷ more) = ends_in_white (y ∷ more)

-- the text is a datum of the class when followed by more of its unit
abbrev pub IsDatum : DatumClass → List ℕ → List ℕ → Type 0
IsDatum Numeric text more = (n : Number) × IsNumber n × (text ≡ number_text n) × (ends_in_white text ≡ false)
IsDatum Character text more = is_node text ≡ true
IsDatum class text more = (piece : Piece) × (class_of piece ≡ class) × (text ≡ spelling piece) × IsWholeIn piece more

-- what precedes the rest of the data: nothing where there are no more data, otherwise white space and a `,`
abbrev pub IsBefore : List ℕ → List ℕ → List Datum → Type 0
IsBefore next rest [] = next ≡ rest
IsBefore next rest (datum ∷ list) = (space : List ℕ) × (all_white space ≡ true) × (next ≡ space ++ 44 ∷ rest)

-- only white space, or data separated by `,` with white space allowed around each
abbrev pub Lists : List ℕ → List Datum → Type 0
Lists text [] = all_white text ≡ true
Lists text (datum ∷ list) =
    (space next rest : List ℕ) × (all_white space ≡ true) × (text ≡ space ++ (datum.text ++ next)) × IsDatum datum.class datum.text next
    × IsBefore next rest list × Lists rest list

-- ---- units

pub record Syntax : Type 0 where
  pub header : List ℕ
  pub parameters : List Datum

-- the text is empty or begins with white space
abbrev pub is_apart : List ℕ → Bool
is_apart [] = true
is_apart (x ∷ xs) = is_white x

-- white space, a header, and then nothing or white space and data
abbrev pub UnitReads : List ℕ → Syntax → Type 0
UnitReads text syntax =
    (space rest : List ℕ) × (all_white space ≡ true) × (text ≡ space ++ (syntax.header ++ rest)) × SpellsHeader syntax.header
    × (is_apart rest ≡ true) × Lists rest syntax.parameters

-- a byte of 127 or more occurs outside strings and blocks
abbrev pub has_high : List Token → Bool
has_high [] = false
has_high (Byte b ∷ tokens) = nat_lt 126 b || has_high tokens
has_high (token ∷ tokens) = has_high tokens

-- the result of a text without such a byte (false), or with one (true)
abbrev pub TextGives : Bool → List ℕ → Result Syntax ScpiError → Type 0
TextGives true text result = result ≡ Err InvalidCharacter
TextGives false text result =
    ((syntax : Syntax) × UnitReads text syntax × (result ≡ Ok syntax))
    ⊎ (((syntax : Syntax) → UnitReads text syntax → ⊥) × (result ≡ Err SyntaxError))

-- -151 or -161
abbrev pub error_of : UnitFault → ScpiError
error_of fault.String = InvalidStringData
error_of fault.Block = InvalidBlockData

abbrev pub FaultGives : Option UnitFault → List ℕ → Result Syntax ScpiError → Type 0
FaultGives (Some faulty) text result = result ≡ Err (error_of faulty)
FaultGives None text result = (tokens : List Token) × Reads is_closed text tokens × TextGives (has_high tokens) text result

-- the result of a unit: its fault, -101, -102, or its header and data
abbrev pub SyntaxGives : Part → Result Syntax ScpiError → Type 0
SyntaxGives unit result = FaultGives unit.fault unit.text result

-- a datum of the code, with its text as a list
abbrev pub datum_of : rust.Datum → Datum
datum_of datum = record { class = datum.class; text = datum.text.now }
