-- Every datum has a value or an error, whatever class is required.
use Rattle.std.proofs.Common.{◌≡◌, ℕ, List, [], ◌∷◌, refl, sym, subst, Result, Ok, Err, ℤ}
use Rattle.psu_lex.specs.Number.{reading_of}
use Rattle.psu_lex.specs.Syntax.{Datum, IsDatum}
use Rattle.psu_lex.specs.Shown.{IsSomeDatum}
use Rattle.psu_lex.specs.declared.data.DatumClass.{DatumClass}
use Rattle.psu_lex.specs.declared.data.DatumClass.TheVariants.{Numeric, Character, String, Block}
use Rattle.psu_lex.specs.declared.scpi_error.ScpiError.{ScpiError}
use Rattle.psu_lex.specs.declared.scpi_error.ScpiError.TheVariants.{DataTypeError}
use Rattle.psu_tree.specs.Parameters.{mapped, next, WholeOf, SwitchOf, AmountOf, WordOf, StringOf, BlockOf, TakesWhole, TakesSwitch, TakesAmount, TakesWord, TakesString, TakesBlock, amount_of, Two}
use Rattle.psu_tree.specs.declared.text.Choice.{Choice}
use Rattle.psu_tree.specs.declared.text.Choice.TheVariants.{Amount, Word}
use Rattle.psu_tree.proofs.Taking.{string_at, block_at}

whole_at : (class : DatumClass) (text more : List ℕ) → IsDatum class text more → (taken : Result ℤ ScpiError) × WholeOf class text taken
whole_at Numeric text more (n, h, t, w) = (reading_of n 0, (n, h, t, refl))
whole_at Character text more is = (Err DataTypeError, refl)
whole_at String text more is = (Err DataTypeError, refl)
whole_at Block text more is = (Err DataTypeError, refl)

pub some_whole : (d : Datum) → IsSomeDatum d → (taken : Result ℤ ScpiError) × TakesWhole d taken
some_whole d is = whole_at d.class d.text is.0 is.1

switch_at : (class : DatumClass) (text more : List ℕ) → IsDatum class text more → (taken : Result Choice ScpiError) × SwitchOf class text taken
switch_at Numeric text more (n, h, t, w) = (mapped Amount (reading_of n 0), (n, h, t, refl))
switch_at Character text more is = (Ok (Word text), refl)
switch_at String text more is = (Err DataTypeError, refl)
switch_at Block text more is = (Err DataTypeError, refl)

pub some_switch : (d : Datum) → IsSomeDatum d → (taken : Result Choice ScpiError) × TakesSwitch d taken
some_switch d is = switch_at d.class d.text is.0 is.1

amount_at : (unit : ℕ) (class : DatumClass) (text more : List ℕ) → IsDatum class text more → (taken : Result Choice ScpiError) × AmountOf unit class text taken
amount_at unit Numeric text more (n, h, t, w) = (mapped Amount (amount_of unit n), (n, h, t, refl))
amount_at unit Character text more is = (Ok (Word text), refl)
amount_at unit String text more is = (Err DataTypeError, refl)
amount_at unit Block text more is = (Err DataTypeError, refl)

pub some_amount : (unit : ℕ) (d : Datum) → IsSomeDatum d → (taken : Result Choice ScpiError) × TakesAmount unit d taken
some_amount unit d is = amount_at unit d.class d.text is.0 is.1

word_at : (class : DatumClass) (text : List ℕ) → (taken : Result (List ℕ) ScpiError) × WordOf class text taken
word_at Numeric text = (Err DataTypeError, refl)
word_at Character text = (Ok text, refl)
word_at String text = (Err DataTypeError, refl)
word_at Block text = (Err DataTypeError, refl)

pub some_word : (d : Datum) → IsSomeDatum d → (taken : Result (List ℕ) ScpiError) × TakesWord d taken
some_word d is = word_at d.class d.text

text_at : (class : DatumClass) (text more : List ℕ) → IsDatum class text more → (taken : Result (List ℕ) ScpiError) × StringOf class text taken
text_at String text more (p, c, t, w) = let s = string_at text more p c t w in (Ok s.1, (s.1, s.4, refl))
text_at Numeric text more is = (Err DataTypeError, refl)
text_at Character text more is = (Err DataTypeError, refl)
text_at Block text more is = (Err DataTypeError, refl)

pub some_string : (d : Datum) → IsSomeDatum d → (taken : Result (List ℕ) ScpiError) × TakesString d taken
some_string d is = text_at d.class d.text is.0 is.1

bytes_at : (class : DatumClass) (text more : List ℕ) → IsDatum class text more → (taken : Result (List ℕ) ScpiError) × BlockOf class text taken
bytes_at Block text more (p, c, t, w) = let s = block_at text more p c t w in (Ok s.0, (s.0, s.1, refl))
bytes_at Numeric text more is = (Err DataTypeError, refl)
bytes_at Character text more is = (Err DataTypeError, refl)
bytes_at String text more is = (Err DataTypeError, refl)

pub some_block : (d : Datum) → IsSomeDatum d → (taken : Result (List ℕ) ScpiError) × TakesBlock d taken
some_block d is = bytes_at d.class d.text is.0 is.1

-- ---- a pair whose first datum has an error

-- where a value can have no error, the error is the datum's
pub failed : {A B : Type 0} (value : A → Result B ScpiError) (taken : Result A ScpiError) (e : ScpiError) → ((a : A) → (b : B) × (value a ≡ Ok b)) → Err e ≡ next taken value → taken ≡ Err e
failed value (Ok a) e good h = let g = good a in absurd (cc (h, g.1))
failed value (Err x) e good h = cc (h)

pub first_failed : {A B C D : Type 0} (P : Datum → Result A ScpiError → Type 0) (v : A → Result C ScpiError) (Q : Datum → Result B ScpiError → Type 0) (w : B → Result D ScpiError) (d other : Datum) (list : List Datum)
    (r : Result (C × D) ScpiError) (taken : Result A ScpiError) (e : ScpiError) → list ≡ d ∷ other ∷ [] → r ≡ Err e → P d taken → taken ≡ Err e → (second : Result B ScpiError) × Q other second → Two P v Q w list r
first_failed P v Q w d other list r taken e l is p t second =
    subst (λ (z : List Datum). Two P v Q w z r) (sym l) (Err e, second.0, subst (P d) t p, second.1, is)
