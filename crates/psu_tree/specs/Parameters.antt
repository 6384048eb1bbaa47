-- Parameters of commands: the data that they accept, and the values of these. Sources: IEEE 488.2, 7.7 (data);
-- SCPI-1999 volume 1, 7.2 (numbers, MINimum and MAXimum), 7.3 (Boolean).
use Rattle.std.specs.Prelude.{◌≡◌, ℕ, ◌==◌, ◌||◌, nat_lt, Bool, true, false, not, List, [], ◌∷◌, length, codes, Option, Some, None, Result, Ok, Err, ℤ, pos, nat_abs, int_lt, if◌then◌else◌}
use Rattle.psu_lex.specs.Data.{IsStringOf, IsDatumOf}
use Rattle.psu_lex.specs.Names.{is_label, is_name}
use Rattle.psu_lex.specs.Number.{Number, IsNumber, number_text, reading_of, valued}
use Rattle.psu_lex.specs.Syntax.{Datum}
use Rattle.psu_lex.specs.declared.data.DatumClass.{DatumClass}
use Rattle.psu_lex.specs.declared.data.DatumClass.TheVariants.{Numeric, Character, String, Block}
use Rattle.psu_lex.specs.declared.scpi_error.ScpiError.{ScpiError}
use Rattle.psu_lex.specs.declared.scpi_error.ScpiError.TheVariants.{DataTypeError, MissingParameter, ParameterNotAllowed, DataOutOfRange, TooMuchData, IllegalParameterValue, InvalidSuffix}
use Rattle.psu_tree.specs.Headers.{same_letters}
use Rattle.psu_tree.specs.declared.text.Choice.{Choice}
use Rattle.psu_tree.specs.declared.text.Choice.TheVariants.{Amount, Word}
use Rattle.psu_tree.specs.declared.values.Extreme.{Extreme}
use Rattle.psu_tree.specs.declared.values.Extreme.TheVariants.{Least, Greatest}

-- continues with the value where there is no error
abbrev pub next : {A B : Type 0} → Result A ScpiError → (A → Result B ScpiError) → Result B ScpiError
next (Ok a) then_ = then_ a
next (Err e) then_ = Err e

abbrev pub mapped : {A B : Type 0} → (A → B) → Result A ScpiError → Result B ScpiError
mapped make (Ok a) = Ok (make a)
mapped make (Err e) = Err e

-- the word, ignoring case
abbrev pub is_word : List ℕ → List ℕ → Bool
is_word word text = same_letters word text

-- ---- the value of a datum: an error of its class, or of its number

abbrev pub WholeOf : DatumClass → List ℕ → Result ℤ ScpiError → Type 0
WholeOf Numeric text given = (n : Number) × IsNumber n × (text ≡ number_text n) × (given ≡ reading_of n 0)
WholeOf class text given = given ≡ Err DataTypeError

-- a whole number
abbrev pub TakesWhole : Datum → Result ℤ ScpiError → Type 0
TakesWhole datum given = WholeOf datum.class datum.text given

abbrev pub SwitchOf : DatumClass → List ℕ → Result Choice ScpiError → Type 0
SwitchOf Numeric text given = (n : Number) × IsNumber n × (text ≡ number_text n) × (given ≡ mapped Amount (reading_of n 0))
SwitchOf Character text given = given ≡ Ok (Word text)
SwitchOf class text given = given ≡ Err DataTypeError

-- a whole number or a word
abbrev pub TakesSwitch : Datum → Result Choice ScpiError → Type 0
TakesSwitch datum given = SwitchOf datum.class datum.text given

-- the decimal places of a suffix: 3 (thousandths of the unit) where it is missing or is the unit's letter; 0 where it
-- is an M before the letter
abbrev pub places_of : ℕ → List ℕ → Option ℕ
places_of unit suffix =
    if is_word [] suffix || is_word (unit ∷ []) suffix then Some 3 else (if is_word (77 ∷ unit ∷ []) suffix then Some 0 else None)

abbrev pub scaled : Number → Option ℕ → Result ℤ ScpiError
scaled n (Some places) = valued n places
scaled n None = next (valued n 0) (λ _. Err InvalidSuffix)

-- a number in thousandths of the unit
abbrev pub amount_of : ℕ → Number → Result ℤ ScpiError
amount_of unit n = scaled n (places_of unit n.suffix)

abbrev pub AmountOf : ℕ → DatumClass → List ℕ → Result Choice ScpiError → Type 0
AmountOf unit Numeric text given = (n : Number) × IsNumber n × (text ≡ number_text n) × (given ≡ mapped Amount (amount_of unit n))
AmountOf unit Character text given = given ≡ Ok (Word text)
AmountOf unit class text given = given ≡ Err DataTypeError

-- a number with a unit, or a word
abbrev pub TakesAmount : ℕ → Datum → Result Choice ScpiError → Type 0
TakesAmount unit datum given = AmountOf unit datum.class datum.text given

abbrev pub WordOf : DatumClass → List ℕ → Result (List ℕ) ScpiError → Type 0
WordOf Character text given = given ≡ Ok text
WordOf class text given = given ≡ Err DataTypeError

-- a word
abbrev pub TakesWord : Datum → Result (List ℕ) ScpiError → Type 0
TakesWord datum given = WordOf datum.class datum.text given

abbrev pub StringOf : DatumClass → List ℕ → Result (List ℕ) ScpiError → Type 0
StringOf String text given = (bytes : List ℕ) × IsStringOf text bytes × (given ≡ Ok bytes)
StringOf class text given = given ≡ Err DataTypeError

-- a string
abbrev pub TakesString : Datum → Result (List ℕ) ScpiError → Type 0
TakesString datum given = StringOf datum.class datum.text given

abbrev pub BlockOf : DatumClass → List ℕ → Result (List ℕ) ScpiError → Type 0
BlockOf Block text given = (bytes : List ℕ) × IsDatumOf text bytes × (given ≡ Ok bytes)
BlockOf class text given = given ≡ Err DataTypeError

-- a block
abbrev pub TakesBlock : Datum → Result (List ℕ) ScpiError → Type 0
TakesBlock datum given = BlockOf datum.class datum.text given

-- ---- the value in its range: an error of the range

abbrev pub counted : ℕ → ℕ → ℤ → Result ℕ ScpiError
counted least most n = if int_lt n (pos least) || int_lt (pos most) n then Err DataOutOfRange else Ok (nat_abs n)

-- -32767 to 32767: whether it is not 0
abbrev pub flagged : ℤ → Result Bool ScpiError
flagged n = if nat_lt 32767 (nat_abs n) then Err DataOutOfRange else Ok (not (nat_abs n == 0))

-- ON, OFF, or a number, which is ON unless it is 0
abbrev pub switched : Choice → Result Bool ScpiError
switched (Amount n) = Ok (not (nat_abs n == 0))
switched (Word text) = if is_word (codes "ON") text then Ok true else (if is_word (codes "OFF") text then Ok false else Err IllegalParameterValue)

abbrev pub extreme_of : List ℕ → Result Extreme ScpiError
extreme_of text =
    if is_word (codes "MIN") text || is_word (codes "MINIMUM") text then Ok Least
    else (if is_word (codes "MAX") text || is_word (codes "MAXIMUM") text then Ok Greatest else Err IllegalParameterValue)

-- RST or RCL0: whether it is RCL0
abbrev pub recalled : List ℕ → Result Bool ScpiError
recalled text = if is_word (codes "RST") text then Ok false else (if is_word (codes "RCL0") text then Ok true else Err IllegalParameterValue)

-- the end of a range from 0
abbrev pub end_of : ℕ → Extreme → ℕ
end_of most Least = 0
end_of most Greatest = most

-- a number from 0 to the maximum, or an end of that range
abbrev pub leveled : ℕ → Choice → Result ℕ ScpiError
leveled most (Amount n) = counted 0 most n
leveled most (Word text) = mapped (end_of most) (extreme_of text)

abbrev pub at_most : ℕ → List ℕ → Result (List ℕ) ScpiError
at_most most bytes = if nat_lt most (length bytes) then Err TooMuchData else Ok bytes

abbrev pub some_if : (List ℕ → Bool) → List ℕ → Option (List ℕ)
some_if test text = if test text then Some text else None

abbrev pub label_of : List ℕ → Option (List ℕ)
label_of text = some_if is_label text

abbrev pub name_of : List ℕ → Option (List ℕ)
name_of text = some_if is_name text

-- no range error, whatever the string is: the command records that it is not a valid label or name
abbrev pub labeled : List ℕ → Result (Option (List ℕ)) ScpiError
labeled text = Ok (label_of text)

abbrev pub named : List ℕ → Result (Option (List ℕ)) ScpiError
named text = Ok (name_of text)

-- ---- the data of a header: first their number, then the class of each from the left, then the range of each

-- one parameter
abbrev pub One : {A B : Type 0} → (Datum → Result A ScpiError → Type 0) → (A → Result B ScpiError) → List Datum → Result B ScpiError → Type 0
One Takes value [] given = given ≡ Err MissingParameter
One {A} Takes value (datum ∷ []) given = (taken : Result A ScpiError) × Takes datum taken × (given ≡ next taken value)
One Takes value (datum ∷ other ∷ more) given = given ≡ Err ParameterNotAllowed

-- one parameter or none
abbrev pub Perhaps : {A B : Type 0} → (Datum → Result A ScpiError → Type 0) → (A → Result B ScpiError) → List Datum → Result (Option B) ScpiError → Type 0
Perhaps Takes value [] given = given ≡ Ok None
Perhaps {A} Takes value (datum ∷ []) given = (taken : Result A ScpiError) × Takes datum taken × (given ≡ mapped Some (next taken value))
Perhaps Takes value (datum ∷ other ∷ more) given = given ≡ Err ParameterNotAllowed

-- both classes are checked before both ranges
abbrev pub paired : {A B C D : Type 0} → Result A ScpiError → (A → Result C ScpiError) → Result B ScpiError → (B → Result D ScpiError) → Result (C × D) ScpiError
paired first value second other = next first (λ a. next second (λ b. next (value a) (λ c. mapped (λ d. (c, d)) (other b))))

-- two parameters
abbrev pub Two : {A B C D : Type 0} → (Datum → Result A ScpiError → Type 0) → (A → Result C ScpiError) → (Datum → Result B ScpiError → Type 0) → (B → Result D ScpiError) → List Datum
    → Result (C × D) ScpiError → Type 0
Two Takes value Follows other [] given = given ≡ Err MissingParameter
Two Takes value Follows other (datum ∷ []) given = given ≡ Err MissingParameter
Two {A} {B} Takes value Follows other (datum ∷ after ∷ []) given =
    (first : Result A ScpiError) × (second : Result B ScpiError) × Takes datum first × Follows after second × (given ≡ paired first value second other)
Two Takes value Follows other (datum ∷ after ∷ more ∷ list) given = given ≡ Err ParameterNotAllowed
