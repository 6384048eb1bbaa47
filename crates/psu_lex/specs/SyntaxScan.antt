-- Definitions for the contracts inside this crate: what the scan of a unit's header and data has found.
use Rattle.std.specs.Prelude.{◌≡◌, ℕ, ◌+◌, ◌-◌, ◌==◌, ◌&&◌, not, nat_lt, Bool, true, false, List, [], ◌∷◌, ◌++◌, length, take, drop, slice_index, Option, Some, None, if◌then◌else◌}
use Rattle.psu_lex.specs.Bytes.{is_dark, is_white, is_letter, is_quote, starts, starts_quoted}
use Rattle.psu_lex.specs.NumberScan.{run, left, is_number}
use Rattle.psu_lex.specs.Scan.{after_piece}
use Rattle.psu_lex.specs.Syntax.{is_name_byte, is_node, Datum}
use Rattle.psu_lex.specs.declared.data.DatumClass.{DatumClass}
use Rattle.psu_lex.specs.declared.data.DatumClass.TheVariants.{Numeric, Character, String, Block}
use Rattle.psu_lex.specs.declared.unit.HeaderMark.{HeaderMark}
use Rattle.psu_lex.specs.declared.unit.HeaderMark.TheVariants.{Star, Colon, Bare}

-- ---- headers

abbrev pub is_empty : List ℕ → Bool
is_empty [] = true
is_empty (x ∷ xs) = false

-- another node follows
abbrev pub joins : Bool → Bool → ℕ → Bool
joins begun several b = begun && several && b == 58

-- the byte may occur in a node, which has begun or not
abbrev pub is_part : Bool → ℕ → Bool
is_part begun b = if begun then is_name_byte b else is_letter b

-- nodes joined by `:`, or one node, followed by an optional `?`, where a node has begun or not
abbrev pub is_path : Bool → Bool → List ℕ → Bool
is_path several begun [] = begun
is_path several begun (x ∷ xs) =
    if x == 63 then begun && is_empty xs
    else (if joins begun several x then is_path several false xs else (if is_part begun x then is_path several true xs else false))

abbrev pub is_header : List ℕ → Bool
is_header [] = false
is_header (x ∷ xs) = if x == 42 then is_path false false xs else (if x == 58 then is_path true false xs else is_path true false (x ∷ xs))

-- the first n bytes are the text up to white space or the end, and pass the test
pub record EndsDark (test : List ℕ → Bool) (text : List ℕ) (n : ℕ) : Type 0 where
  pub front : take n text ≡ run is_dark text
  pub back : drop n text ≡ left is_dark text
  pub passes : test (run is_dark text) ≡ true

-- the bytes before a position belong to the text up to white space, which is a path if and only if its rest from the
-- position on is one, where a node has begun or not
pub record Reaches (several begun : Bool) (text : List ℕ) (at : ℕ) : Type 0 where
  pub front : take at text ++ run is_dark (drop at text) ≡ run is_dark text
  pub back : left is_dark (drop at text) ≡ left is_dark text
  pub path : is_path several begun (run is_dark (drop at text)) ≡ is_path several false (run is_dark text)

-- the position, or the next one where a `?` is at the position
abbrev pub behind_ask : List ℕ → ℕ → ℕ
behind_ask text at = if slice_index text at == 63 then at + 1 else at

-- the mark that the first byte denotes
abbrev pub mark_at : ℕ → HeaderMark
mark_at b = if b == 42 then Star else (if b == 58 then Colon else Bare)

abbrev pub mark_of : List ℕ → HeaderMark
mark_of [] = Bare
mark_of (x ∷ xs) = mark_at x

-- the text after a mark
abbrev pub behind_mark : HeaderMark → List ℕ → List ℕ
behind_mark Star text = drop 1 text
behind_mark Colon text = drop 1 text
behind_mark Bare text = text

-- the last byte is `?`
abbrev pub ends_asking : List ℕ → Bool
ends_asking [] = false
ends_asking (x ∷ []) = x == 63
ends_asking (x ∷ y ∷ more) = ends_asking (y ∷ more)

-- the text without its last `?`
abbrev pub without_ask : Bool → List ℕ → List ℕ
without_ask true text = take (length text - 1) text
without_ask false text = text

-- ---- data

abbrev pub is_uncut : ℕ → Bool
is_uncut b = not (b == 44)

-- the class of a datum by its first byte
abbrev pub class_at : ℕ → DatumClass
class_at b = if is_quote b then String else (if b == 35 then Block else (if is_letter b then Character else Numeric))

-- the text is empty or begins with `,`
abbrev pub is_parted : List ℕ → Bool
is_parted [] = true
is_parted (x ∷ xs) = x == 44

-- the text without trailing white space
abbrev pub put_dark : ℕ → List ℕ → List ℕ
put_dark x [] = if is_white x then [] else x ∷ []
put_dark x (y ∷ ys) = x ∷ y ∷ ys

abbrev pub trimmed : List ℕ → List ℕ
trimmed [] = []
trimmed (x ∷ xs) = put_dark x (trimmed xs)

-- the text up to the `,` or the end, without trailing white space
abbrev pub written : List ℕ → List ℕ
written body = trimmed (run is_uncut body)

-- what follows the datum of the class that the body begins with
abbrev pub after_datum : DatumClass → List ℕ → Option (List ℕ)
after_datum Numeric body = if is_number (written body) then Some (drop (length (written body)) body) else None
after_datum Character body = if is_node (written body) then Some (drop (length (written body)) body) else None
after_datum String body = if starts_quoted body then after_piece body else None
after_datum Block body = if starts 35 body then (if starts 48 (drop 1 body) then Some [] else after_piece body) else None

-- the datum that the body is before what follows it, and what follows that after white space
abbrev pub parted : DatumClass → List ℕ → Option (List ℕ) → Option (Datum × List ℕ)
parted class body None = None
parted class body (Some next) =
    if is_parted (left is_white next) then Some (record { class = class; text = take (length body - length next) body }, left is_white next)
    else None

abbrev pub datum_in : List ℕ → Option (Datum × List ℕ)
datum_in [] = None
datum_in (x ∷ xs) = parted (class_at x) (x ∷ xs) (after_datum (class_at x) (x ∷ xs))

-- the datum that the text begins with after white space, and what follows it after white space
abbrev pub datum_at : List ℕ → Option (Datum × List ℕ)
datum_at text = datum_in (left is_white text)

-- ---- bytes

abbrev pub is_high : ℕ → Bool
is_high b = nat_lt 126 b
