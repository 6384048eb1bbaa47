-- Definitions for the contracts inside this crate: what a scan of a number takes, from the left, as long as possible.
use Rattle.std.specs.Prelude.{◌≡◌, ℕ, ◌==◌, ◌||◌, ◌&&◌, not, Bool, true, false, List, [], ◌∷◌, drop, Option, Some, None, is_none, ℤ, pos, neg_ℤ, if◌then◌else◌}
use Rattle.psu_lex.specs.Bytes.{is_digit, is_letter, is_white}
use Rattle.psu_lex.specs.Number.{Sign, Exponent, Number, mantissa}
use Rattle.psu_lex.specs.Number.Sign.{Plus, Minus, Unsigned}
use Rattle.psu_lex.specs.declared.class.Class.{Class}
use Rattle.psu_lex.specs.declared.class.Class.TheVariants.{Digit, White, Letter}
use Rattle.psu_lex.specs.declared.written.Power as code_power
use Rattle.psu_lex.specs.Shown.{divides, power_digits}

abbrev pub belongs : Class → ℕ → Bool
belongs Digit = is_digit
belongs White = is_white
belongs Letter = is_letter

-- the longest prefix of bytes that pass the test, and the rest after it
abbrev pub run : (ℕ → Bool) → List ℕ → List ℕ
run test [] = []
run test (x ∷ xs) = if test x then x ∷ run test xs else []

abbrev pub left : (ℕ → Bool) → List ℕ → List ℕ
left test [] = []
left test (x ∷ xs) = if test x then left test xs else x ∷ xs

abbrev pub sign_of : List ℕ → Sign
sign_of [] = Unsigned
sign_of (x ∷ xs) = if x == 43 then Plus else (if x == 45 then Minus else Unsigned)

abbrev pub after_sign : List ℕ → List ℕ
after_sign [] = []
after_sign (x ∷ xs) = if x == 43 || x == 45 then xs else x ∷ xs

abbrev pub fraction_of : List ℕ → Option (List ℕ)
fraction_of [] = None
fraction_of (x ∷ xs) = if x == 46 then Some (run is_digit xs) else None

abbrev pub after_fraction : List ℕ → List ℕ
after_fraction [] = []
after_fraction (x ∷ xs) = if x == 46 then left is_digit xs else x ∷ xs

-- an exponent has a digit
abbrev pub exponent_with : List ℕ → ℕ → List ℕ → Sign → List ℕ → Option Exponent
exponent_with before letter after sign [] = None
exponent_with before letter after sign (d ∷ ds) =
    Some (record { before = before; letter = letter; after = after; sign = sign; digits = d ∷ ds })

abbrev pub exponent_from : List ℕ → List ℕ → Option Exponent
exponent_from before [] = None
exponent_from before (x ∷ xs) =
    if x == 69 || x == 101 then exponent_with before x (run is_white xs) (sign_of (left is_white xs)) (run is_digit (after_sign (left is_white xs)))
    else None

abbrev pub exponent_of : List ℕ → Option Exponent
exponent_of text = exponent_from (run is_white text) (left is_white text)

-- the text after the exponent, if there is one
abbrev pub behind : List ℕ → List ℕ
behind text = left is_digit (after_sign (left is_white (drop 1 (left is_white text))))

abbrev pub after_exponent : List ℕ → List ℕ
after_exponent text = if is_none (exponent_of text) then text else behind text

abbrev pub is_nonempty : List ℕ → Bool
is_nonempty [] = false
is_nonempty (x ∷ xs) = true

-- white space before a suffix, the suffix, trailing white space, and the rest
abbrev pub suffix_of : List ℕ → List ℕ
suffix_of text = run is_letter (left is_white text)

abbrev pub gap_of : List ℕ → List ℕ
gap_of text = if is_nonempty (suffix_of text) then run is_white text else []

abbrev pub end_of : List ℕ → List ℕ
end_of text = if is_nonempty (suffix_of text) then run is_white (left is_letter (left is_white text)) else run is_white text

abbrev pub excess_of : List ℕ → List ℕ
excess_of text = left is_white (left is_letter (left is_white text))

-- where the parts of a number begin
abbrev pub at_fraction : List ℕ → List ℕ
at_fraction text = left is_digit (after_sign text)

abbrev pub at_exponent : List ℕ → List ℕ
at_exponent text = after_fraction (at_fraction text)

abbrev pub at_tail : List ℕ → List ℕ
at_tail text = after_exponent (at_exponent text)

abbrev pub scanned : List ℕ → Number
scanned text = record {
  sign = sign_of text;
  whole = run is_digit (after_sign text);
  fraction = fraction_of (at_fraction text);
  exponent = exponent_of (at_exponent text);
  gap = gap_of (at_tail text);
  suffix = suffix_of (at_tail text);
  rest = end_of (at_tail text);
}

-- the text is a number: there is a digit before or after the point, and no bytes remain
abbrev pub is_number : List ℕ → Bool
is_number text = is_nonempty (mantissa (scanned text)) && not (is_nonempty (excess_of (at_tail text)))

abbrev pub with_minus : Bool → ℕ → ℤ
with_minus false n = pos n
with_minus true n = neg_ℤ (pos n)

-- the code's exponent has these parts
pub record ShowsPower (shown : code_power.Power) (exponent : Option Exponent) (later : List ℕ) : Type 0 where
  pub divides : shown.divides ≡ divides exponent
  pub digits : shown.digits.now ≡ power_digits exponent
  pub rest : shown.rest.now ≡ later
