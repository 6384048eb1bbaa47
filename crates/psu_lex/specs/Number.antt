-- Numbers: their spelling, and the whole number that is the value. Source: IEEE 488.2, 7.7.2 (decimal numeric data) and
-- 7.7.3 (suffixes).
use Rattle.std.specs.Prelude.{◌≡◌, ◌⊎◌, ℕ, ◌+◌, ◌*◌, ◌/◌, ◌^◌, ◌<◌, ◌==◌, ◌||◌, nat_lt, min, true, List, [], ◌∷◌, ◌++◌, length, Option, Some, None, Result, Ok, Err, ℤ, pos, neg_ℤ, if◌then◌else◌}
use Rattle.psu_lex.specs.Bytes.{all_digits, all_letters, all_white, value_after}
use Rattle.psu_lex.specs.declared.scpi_error.ScpiError.{ScpiError}
use Rattle.psu_lex.specs.declared.scpi_error.ScpiError.TheVariants.{SyntaxError, ExponentTooLarge, TooManyDigits, InvalidSuffix}

-- `+`, `-` or nothing
pub data Sign : Type 0 where
  Plus : Sign
  Minus : Sign
  Unsigned : Sign

abbrev pub sign_text : Sign → List ℕ
sign_text Plus = 43 ∷ []
sign_text Minus = 45 ∷ []
sign_text Unsigned = []

-- white space, `E` or `e`, white space, a sign, digits
pub record Exponent : Type 0 where
  pub before : List ℕ
  pub letter : ℕ
  pub after : List ℕ
  pub sign : Sign
  pub digits : List ℕ

-- a number as written: `fraction` is None where there is no point
pub record Number : Type 0 where
  pub sign : Sign
  pub whole : List ℕ
  pub fraction : Option (List ℕ)
  pub exponent : Option Exponent
  pub gap : List ℕ
  pub suffix : List ℕ
  pub rest : List ℕ

abbrev pub fraction_text : Option (List ℕ) → List ℕ
fraction_text None = []
fraction_text (Some digits) = 46 ∷ digits

abbrev pub fraction_digits : Option (List ℕ) → List ℕ
fraction_digits None = []
fraction_digits (Some digits) = digits

abbrev pub exponent_text : Option Exponent → List ℕ
exponent_text None = []
exponent_text (Some e) = e.before ++ e.letter ∷ (e.after ++ (sign_text e.sign ++ e.digits))

-- the spelling of a number
abbrev pub number_text : Number → List ℕ
number_text n =
    sign_text n.sign ++ (n.whole ++ (fraction_text n.fraction ++ (exponent_text n.exponent ++ (n.gap ++ (n.suffix ++ n.rest)))))

abbrev pub mantissa : Number → List ℕ
mantissa n = n.whole ++ fraction_digits n.fraction

abbrev pub IsExponent : Exponent → Type 0
IsExponent e =
    (all_white e.before ≡ true) × ((e.letter == 69 || e.letter == 101) ≡ true) × (all_white e.after ≡ true)
    × (all_digits e.digits ≡ true) × (0 < length e.digits)

abbrev pub ExponentHolds : Option Exponent → Type 0
ExponentHolds None = Unit {0}
ExponentHolds (Some e) = IsExponent e

pub record IsNumber (n : Number) : Type 0 where
  pub digits : all_digits (mantissa n) ≡ true
  pub some : 0 < length (mantissa n)
  pub exponent : ExponentHolds n.exponent
  pub gap : all_white n.gap ≡ true
  pub no_gap : n.suffix ≡ [] → n.gap ≡ []
  pub suffix : all_letters n.suffix ≡ true
  pub rest : all_white n.rest ≡ true

-- ---- the value

-- numerator / denominator to the nearest whole number, a half upwards
abbrev pub rounded : ℕ → ℕ → ℕ
rounded numerator denominator = (2 * numerator + denominator) / (2 * denominator)

-- digits times 10^up / 10^down, rounded and capped at 10^15
abbrev pub magnitude : List ℕ → ℕ → ℕ → ℕ
magnitude digits up down = min (10 ^ 15) (rounded (value_after 0 digits * 10 ^ up) (10 ^ down))

abbrev pub if_up : Sign → ℕ → ℕ
if_up Plus n = n
if_up Minus n = 0
if_up Unsigned n = n

abbrev pub if_down : Sign → ℕ → ℕ
if_down Plus n = 0
if_down Minus n = n
if_down Unsigned n = 0

-- the power of ten that multiplies, the one that divides, and the greater of them
abbrev pub power_up : Option Exponent → ℕ
power_up None = 0
power_up (Some e) = if_up e.sign (value_after 0 e.digits)

abbrev pub power_down : Option Exponent → ℕ
power_down None = 0
power_down (Some e) = if_down e.sign (value_after 0 e.digits)

abbrev pub power : Option Exponent → ℕ
power None = 0
power (Some e) = value_after 0 e.digits

abbrev pub signed : Sign → ℕ → ℤ
signed Plus n = pos n
signed Minus n = neg_ℤ (pos n)
signed Unsigned n = pos n

-- the value times 10^places
abbrev pub value_of : Number → ℕ → ℤ
value_of n places =
    signed n.sign (magnitude (mantissa n) (places + power_up n.exponent) (length (fraction_digits n.fraction) + power_down n.exponent))

abbrev pub without_zeros : List ℕ → List ℕ
without_zeros [] = []
without_zeros (d ∷ ds) = if d == 48 then without_zeros ds else d ∷ ds

-- the value times 10^places, or the error in its place; the suffix is ignored
abbrev pub valued : Number → ℕ → Result ℤ ScpiError
valued n places =
    if nat_lt 32000 (power n.exponent) then Err ExponentTooLarge
    else (if nat_lt 255 (length (without_zeros (mantissa n))) then Err TooManyDigits else Ok (value_of n places))

-- the value or the error of a written number where no suffix is allowed
abbrev pub reading_of : Number → ℕ → Result ℤ ScpiError
reading_of n places =
    if nat_lt 32000 (power n.exponent) then Err ExponentTooLarge
    else (if nat_lt 255 (length (without_zeros (mantissa n))) then Err TooManyDigits
    else (if nat_lt 0 (length n.suffix) then Err InvalidSuffix else Ok (value_of n places)))

-- the result of a text: that of its number, or -102 where it is not a number
abbrev pub NumberGives : List ℕ → ℕ → Result ℤ ScpiError → Type 0
NumberGives text places result =
    ((n : Number) × IsNumber n × (text ≡ number_text n) × (result ≡ reading_of n places))
    ⊎ (((n : Number) → IsNumber n → text ≡ number_text n → ⊥) × (result ≡ Err SyntaxError))
