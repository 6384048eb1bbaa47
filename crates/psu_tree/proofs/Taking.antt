-- The value of a datum, from the content of its text.
use Rattle.std.proofs.Common.{◌≡◌, ◌⊎◌, subst, ℕ, true, List, refl, sym, ap, ◌∙◌, inl, inr, Option, Result, Ok, ℤ}
use Rattle.psu_lex.specs.Bytes.{is_quote}
use Rattle.psu_lex.specs.Data.{IsStringOf, IsDatumOf}
use Rattle.psu_lex.specs.Message.{Piece, doubled, spelling}
use Rattle.psu_lex.specs.Message.Piece.{Quoted, Counted, Open}
use Rattle.psu_lex.specs.Number.{Number, IsNumber, NumberGives, number_text, reading_of}
use Rattle.psu_lex.specs.Syntax.{IsDatum, class_of, IsWholeIn}
use Rattle.psu_lex.specs.declared.data.DatumClass.{DatumClass}
use Rattle.psu_lex.specs.declared.data.DatumClass.TheVariants.{Numeric, Character, String, Block}
use Rattle.psu_lex.specs.declared.scpi_error.ScpiError.{ScpiError}
use Rattle.psu_tree.specs.Parameters.{mapped, next, SwitchOf, AmountOf, WordOf, StringOf, BlockOf, amount_of, label_of, labeled, name_of, named}
use Rattle.psu_tree.specs.declared.text.Choice.TheVariants.{Amount}
use Rattle.psu_tree.proofs.Quoting.{label_doubled, name_doubled}

abbrev Written : List ℕ → Type 0
Written text = (n : Number) × IsNumber n × (text ≡ number_text n)

number_is : (text : List ℕ) (given : Result ℤ ScpiError) → NumberGives text 0 given → Written text → (n : Number) × IsNumber n × (text ≡ number_text n) × (given ≡ reading_of n 0)
number_is text given (inl g) some = g
number_is text given (inr (none, e)) (n, h, t) = absurd (none n h t)

pub switch_taken : (class : DatumClass) (text more : List ℕ) (given : Result ℤ ScpiError) → class ≡ Numeric → NumberGives text 0 given → IsDatum class text more → SwitchOf class text (mapped Amount given)
switch_taken Numeric text more given e g (n, h, t, w) =
    let k = number_is text given g (n, h, t) in
    (k.0, k.1, k.2, ap (mapped Amount) k.3)
switch_taken Character text more given e g is = absurd (cc (e))
switch_taken String text more given e g is = absurd (cc (e))
switch_taken Block text more given e g is = absurd (cc (e))

pub amount_taken : (unit : ℕ) (class : DatumClass) (text more : List ℕ) (given : Result ℤ ScpiError) → class ≡ Numeric
    → (Written text → (n : Number) × IsNumber n × (text ≡ number_text n) × (given ≡ amount_of unit n)) → IsDatum class text more → AmountOf unit class text (mapped Amount given)
amount_taken unit Numeric text more given e g (n, h, t, w) =
    let k = g (n, h, t) in
    (k.0, k.1, k.2, ap (mapped Amount) k.3)
amount_taken unit Character text more given e g is = absurd (cc (e))
amount_taken unit String text more given e g is = absurd (cc (e))
amount_taken unit Block text more given e g is = absurd (cc (e))

-- ---- strings and blocks

pub string_at : (text more : List ℕ) (p : Piece) → class_of p ≡ String → text ≡ spelling p → IsWholeIn p more → (q : ℕ) × (bytes : List ℕ) × (is_quote q ≡ true) × (text ≡ spelling (Quoted q bytes)) × IsStringOf text bytes
string_at text more (Quoted q bytes) c e w = (q, bytes, w.0, e, (q, e, (w.0, w.1, refl)))
string_at text more (Counted digits bytes) c e w = absurd (cc (c))
string_at text more (Open bytes) c e w = absurd (cc (c))

-- the text between its quotes, whatever is made of it, where a doubled quote changes nothing
abbrev Between : List ℕ → List ℕ → Type 0
Between text inner = (q : ℕ) (bytes : List ℕ) → text ≡ spelling (Quoted q bytes) → inner ≡ doubled q bytes

pub label_taken : (class : DatumClass) (text more inner : List ℕ) → class ≡ String → Between text inner → IsDatum class text more
    → (taken : Result (List ℕ) ScpiError) × StringOf class text taken × (Ok (label_of inner) ≡ next taken labeled)
label_taken String text more inner e b (p, c, t, w) =
    let s = string_at text more p c t w in
    (Ok s.1, (s.1, s.4, refl), ap (λ (z : Option (List ℕ)). Ok z) (ap label_of (b s.0 s.1 s.3) ∙ label_doubled s.0 s.1 s.2))
label_taken Numeric text more inner e b is = absurd (cc (e))
label_taken Character text more inner e b is = absurd (cc (e))
label_taken Block text more inner e b is = absurd (cc (e))

pub name_taken : (class : DatumClass) (text more inner : List ℕ) → class ≡ String → Between text inner → IsDatum class text more
    → (taken : Result (List ℕ) ScpiError) × StringOf class text taken × (Ok (name_of inner) ≡ next taken named)
name_taken String text more inner e b (p, c, t, w) =
    let s = string_at text more p c t w in
    (Ok s.1, (s.1, s.4, refl), ap (λ (z : Option (List ℕ)). Ok z) (ap name_of (b s.0 s.1 s.3) ∙ name_doubled s.0 s.1 s.2))
name_taken Numeric text more inner e b is = absurd (cc (e))
name_taken Character text more inner e b is = absurd (cc (e))
name_taken Block text more inner e b is = absurd (cc (e))

pub block_at : (text more : List ℕ) (p : Piece) → class_of p ≡ Block → text ≡ spelling p → IsWholeIn p more → (bytes : List ℕ) × IsDatumOf text bytes
block_at text more (Quoted q bytes) c e w = absurd (cc (c))
block_at text more (Counted digits bytes) c e w = (bytes, inl (digits, e, w))
block_at text more (Open bytes) c e w = (bytes, inr e)

pub block_taken : (class : DatumClass) (text more held : List ℕ) → class ≡ Block → ((bytes : List ℕ) → IsDatumOf text bytes → held ≡ bytes) → IsDatum class text more → BlockOf class text (Ok held)
block_taken Block text more held e b (p, c, t, w) =
    let s = block_at text more p c t w in
    (s.0, s.1, ap (λ (z : List ℕ). Ok z) (b s.0 s.1))
block_taken Numeric text more held e b is = absurd (cc (e))
block_taken Character text more held e b is = absurd (cc (e))
block_taken String text more held e b is = absurd (cc (e))

-- ---- words

pub word_taken : (class : DatumClass) (text : List ℕ) → class ≡ Character → WordOf class text (Ok text)
word_taken Character text e = refl
word_taken Numeric text e = absurd (cc (e))
word_taken String text e = absurd (cc (e))
word_taken Block text e = absurd (cc (e))

-- ---- another class

-- a fact of three classes, for one that is one of them
pub of_three : (P : DatumClass → Type 0) (class a b d : DatumClass) → (class ≡ a) ⊎ ((class ≡ b) ⊎ (class ≡ d)) → P a → P b → P d → P class
of_three P class a b d (inl e) x y z = subst P (sym e) x
of_three P class a b d (inr (inl e)) x y z = subst P (sym e) y
of_three P class a b d (inr (inr e)) x y z = subst P (sym e) z
