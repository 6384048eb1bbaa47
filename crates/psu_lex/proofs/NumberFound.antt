-- A text that is a number is scanned as that number.
use Rattle.std.proofs.Common.{◌≡◌, ℕ, ◌==◌, ◌||◌, ◌<◌, Bool, true, false, List, [], ◌∷◌, ◌++◌, length, length-append, refl, sym, ap, ◌∙◌, subst, arith, append_assoc, inl, inr, Option, Some, None, Result, ℤ}
use Rattle.std.proofs.lemmas.Bool.{cases_Bool}
use Rattle.std.proofs.lemmas.Bool.Decides.{nat_tests}
use Rattle.psu_lex.specs.Bytes.{is_digit, is_letter, is_white}
use Rattle.psu_lex.specs.declared.scpi_error.ScpiError.{ScpiError}
use Rattle.psu_lex.specs.Number.{Sign, Exponent, Number, IsNumber, NumberGives, reading_of, ExponentHolds, sign_text, fraction_text, fraction_digits, exponent_text, number_text, mantissa}
use Rattle.psu_lex.specs.Number.Sign.{Plus, Minus, Unsigned}
use Rattle.psu_lex.specs.NumberScan.{run, left, sign_of, after_sign, fraction_of, after_fraction, exponent_with, exponent_from, exponent_of, after_exponent, is_nonempty, is_number, suffix_of, gap_of, end_of, excess_of, at_fraction, at_exponent, at_tail, scanned}
use Rattle.psu_lex.proofs.Runs.{every, leads, digits_every, white_every, letters_every, every_head, every_tail, run_at, left_at, every_append, every_left, left_none, run_all, every_more}

-- what may follow the digits of a number
abbrev is_tail : ℕ → Bool
is_tail b = is_white b || is_letter b

-- what a number may begin with after its sign
abbrev is_body : ℕ → Bool
is_body b = is_digit b || b == 46

tail_byte : (x : ℕ) → is_tail x ≡ true → (is_digit x ≡ false) × ((x == 46) ≡ false)
tail_byte x h = (grind (arith, nat_tests, h), grind (arith, nat_tests, h))

body_byte : (x : ℕ) → is_body x ≡ true → ((x == 43) ≡ false) × ((x == 45) ≡ false) × (is_white x ≡ false)
body_byte x h = (grind (arith, nat_tests, h), grind (arith, nat_tests, h), grind (arith, nat_tests, h))

no_white_letter : (x : ℕ) → is_letter x ≡ true → is_white x ≡ false
no_white_letter x h = grind (arith, nat_tests, h)

no_white_mark : (x : ℕ) → (x == 69 || x == 101) ≡ true → is_white x ≡ false
no_white_mark x h = grind (arith, nat_tests, h)

tail_white : (x : ℕ) → is_white x ≡ true → is_tail x ≡ true
tail_white x h = rw h refl

every_sign : (test : ℕ → Bool) (xs : List ℕ) → every test xs ≡ true → every test (after_sign xs) ≡ true
every_sign test [] h = refl
every_sign test (x ∷ xs) h = elim (cases_Bool (x == 43 || x == 45)) [
  | inl t ↦ rw t (every_tail test x xs h)
  | inr f ↦ rw f h
]

-- the text is empty, or its first byte may follow digits
abbrev tail_first : List ℕ → Bool
tail_first [] = true
tail_first (x ∷ xs) = is_tail x

every_first : (xs : List ℕ) → every is_tail xs ≡ true → tail_first xs ≡ true
every_first [] h = refl
every_first (x ∷ xs) h = every_head is_tail x xs h

no_digits : (xs : List ℕ) → tail_first xs ≡ true → leads is_digit xs ≡ false
no_digits [] h = refl
no_digits (x ∷ xs) h = (tail_byte x h).0

-- ---- the sign

sign_found : (s : Sign) (body : List ℕ) → leads is_body body ≡ true → (sign_of (sign_text s ++ body) ≡ s) × (after_sign (sign_text s ++ body) ≡ body) × (leads is_white (sign_text s ++ body) ≡ false)
sign_found Plus body h = (refl, refl, refl)
sign_found Minus body h = (refl, refl, refl)
sign_found Unsigned [] h = absurd (cc (h))
sign_found Unsigned (x ∷ body) h =
    let plain = body_byte x h in
    (rw (plain.0, plain.1) refl, rw (plain.0, plain.1) refl, plain.2)

leads_mantissa : (whole : List ℕ) (fraction : Option (List ℕ)) (later : List ℕ) → 0 < length (whole ++ fraction_digits fraction) → every is_digit whole ≡ true
    → leads is_body (whole ++ (fraction_text fraction ++ later)) ≡ true
leads_mantissa [] None later some h = absurd (omega (arith, some))
leads_mantissa [] (Some ds) later some h = refl
leads_mantissa (d ∷ whole) fraction later some h = rw (every_head is_digit d whole h) refl

-- ---- the fraction

fraction_found : (fraction : Option (List ℕ)) (later : List ℕ) → every is_digit (fraction_digits fraction) ≡ true → tail_first later ≡ true
    → (fraction_of (fraction_text fraction ++ later) ≡ fraction) × (after_fraction (fraction_text fraction ++ later) ≡ later)
fraction_found None [] h t = (refl, refl)
fraction_found None (x ∷ later) h t = let point = (tail_byte x t).1 in (rw point refl, rw point refl)
fraction_found (Some ds) later h t =
    let stop = no_digits later t in
    (ap Some (run_at is_digit ds later h stop), left_at is_digit ds later h stop)

fraction_first : (fraction : Option (List ℕ)) (later : List ℕ) → tail_first later ≡ true → leads is_digit (fraction_text fraction ++ later) ≡ false
fraction_first None later t = no_digits later t
fraction_first (Some ds) later t = refl

-- ---- the exponent

from_none : (before ys : List ℕ) → every is_tail ys ≡ true → exponent_from before ys ≡ None
from_none before [] h = refl
from_none before (x ∷ ys) h =
    let inner : every is_tail (after_sign (left is_white ys)) ≡ true = every_sign is_tail (left is_white ys) (every_left is_tail is_white ys (every_tail is_tail x ys h)) in
    let none : run is_digit (after_sign (left is_white ys)) ≡ []
    = run_at is_digit [] (after_sign (left is_white ys)) refl (no_digits (after_sign (left is_white ys)) (every_first (after_sign (left is_white ys)) inner)) in
    elim (cases_Bool (x == 69 || x == 101)) [
      | inl t ↦ rw (t, none) refl
      | inr f ↦ rw f refl
    ]

exponent_none : (later : List ℕ) → every is_tail later ≡ true → exponent_of later ≡ None
exponent_none later h = from_none (run is_white later) (left is_white later) (every_left is_tail is_white later h)

with_some : (before : List ℕ) (x : ℕ) (a : List ℕ) (s : Sign) (ds : List ℕ) → 0 < length ds
    → exponent_with before x a s ds ≡ Some (record { before = before; letter = x; after = a; sign = s; digits = ds })
with_some before x a s [] some = absurd (omega (arith, some))
with_some before x a s (d ∷ ds) some = refl

-- white space, the letter, white space, a sign and digits are found
exponent_some : (text before : List ℕ) (x : ℕ) (a : List ℕ) (s : Sign) (ds later : List ℕ) → text ≡ before ++ x ∷ (a ++ (sign_text s ++ (ds ++ later)))
    → every is_white before ≡ true → (x == 69 || x == 101) ≡ true → every is_white a ≡ true → every is_digit ds ≡ true → 0 < length ds → tail_first later ≡ true
    → (exponent_of text ≡ Some (record { before = before; letter = x; after = a; sign = s; digits = ds })) × (after_exponent text ≡ later)
exponent_some text before x a s ds later e b m w d some t =
    let signed = sign_text s ++ (ds ++ later) in
    let marked = x ∷ (a ++ signed) in
    let sign = sign_found s (ds ++ later) (leads_mantissa ds None later (omega (arith, some, length-append ds [])) d) in
    let stop = no_digits later t in
    let front : run is_white text ≡ before = ap (run is_white) e ∙ run_at is_white before marked b (no_white_mark x m) in
    let back : left is_white text ≡ marked = ap (left is_white) e ∙ left_at is_white before marked b (no_white_mark x m) in
    let gap : run is_white (a ++ signed) ≡ a = run_at is_white a signed w sign.2 in
    let later_sign : left is_white (a ++ signed) ≡ signed = left_at is_white a signed w sign.2 in
    let digits : run is_digit (ds ++ later) ≡ ds = run_at is_digit ds later d stop in
    let rest : left is_digit (ds ++ later) ≡ later = left_at is_digit ds later d stop in
    let is : exponent_of text ≡ Some (record { before = before; letter = x; after = a; sign = s; digits = ds })
    = rw (front, back, m, gap, later_sign, sign.0, sign.1, digits) (with_some before x a s ds some) in
    (is, rw is (rw (back, later_sign, sign.1) rest))

first_of : (before : List ℕ) (x : ℕ) (a later : List ℕ) → every is_white before ≡ true → (x == 69 || x == 101) ≡ true → tail_first ((before ++ x ∷ a) ++ later) ≡ true
first_of [] x a later b m = grind (arith, nat_tests, m)
first_of (y ∷ before) x a later b m = tail_white y (every_head is_white y before b)

exponent_found : (exponent : Option Exponent) (later : List ℕ) → ExponentHolds exponent → every is_tail later ≡ true
    → (exponent_of (exponent_text exponent ++ later) ≡ exponent) × (after_exponent (exponent_text exponent ++ later) ≡ later) × (tail_first (exponent_text exponent ++ later) ≡ true)
exponent_found None later h t = (exponent_none later t, rw (exponent_none later t) refl, every_first later t)
exponent_found (Some e) later h t =
    let found = exponent_some (exponent_text (Some e) ++ later) e.before e.letter e.after e.sign e.digits later (simp append_assoc)
    (sym (white_every e.before) ∙ h.0) h.1 (sym (white_every e.after) ∙ h.2) (sym (digits_every e.digits) ∙ h.3) h.4 (every_first later t) in
    (found.0, found.1, first_of e.before e.letter (e.after ++ (sign_text e.sign ++ e.digits)) later (sym (white_every e.before) ∙ h.0) h.1)

-- ---- the suffix and the white space around it

white_no_letter : (xs : List ℕ) → every is_white xs ≡ true → leads is_letter xs ≡ false
white_no_letter [] h = refl
white_no_letter (x ∷ xs) h = grind (arith, nat_tests, every_head is_white x xs h)

pub record Tail (d gap suffix rest : List ℕ) : Type 0 where
  pub suffix_is : suffix_of d ≡ suffix
  pub gap_is : gap_of d ≡ gap
  pub end_is : end_of d ≡ rest
  pub none : excess_of d ≡ []

tail_found : (gap suffix rest : List ℕ) → every is_white gap ≡ true → (suffix ≡ [] → gap ≡ []) → every is_letter suffix ≡ true → every is_white rest ≡ true
    → Tail (gap ++ (suffix ++ rest)) gap suffix rest
tail_found gap [] rest g none s r =
    let whole : gap ++ rest ≡ rest = ap (λ (z : List ℕ). z ++ rest) (none refl) in
    let gone : left is_white rest ≡ [] = left_none is_white rest r in
    subst (λ (z : List ℕ). Tail z gap [] rest) (sym whole) (record {
      suffix_is = rw gone refl;
      gap_is = rw gone (sym (none refl));
      end_is = rw gone (run_all is_white rest r);
      none = rw gone refl;
    })
tail_found gap (x ∷ s) rest g none h r =
    let front : left is_white (gap ++ ((x ∷ s) ++ rest)) ≡ (x ∷ s) ++ rest = left_at is_white gap ((x ∷ s) ++ rest) g (no_white_letter x (every_head is_letter x s h)) in
    let white : run is_white (gap ++ ((x ∷ s) ++ rest)) ≡ gap = run_at is_white gap ((x ∷ s) ++ rest) g (no_white_letter x (every_head is_letter x s h)) in
    let letters : run is_letter ((x ∷ s) ++ rest) ≡ x ∷ s = run_at is_letter (x ∷ s) rest h (white_no_letter rest r) in
    let back : left is_letter ((x ∷ s) ++ rest) ≡ rest = left_at is_letter (x ∷ s) rest h (white_no_letter rest r) in
    let suffix : suffix_of (gap ++ ((x ∷ s) ++ rest)) ≡ x ∷ s = ap (run is_letter) front ∙ letters in
    record {
      suffix_is = suffix;
      gap_is = rw suffix white;
      end_is = rw suffix (ap (λ (z : List ℕ). run is_white (left is_letter z)) front ∙ ap (run is_white) back ∙ run_all is_white rest r);
      none = ap (λ (z : List ℕ). left is_white (left is_letter z)) front ∙ ap (left is_white) back ∙ left_none is_white rest r;
    }

tail_every : (gap suffix rest : List ℕ) → every is_white gap ≡ true → every is_letter suffix ≡ true → every is_white rest ≡ true → every is_tail (gap ++ (suffix ++ rest)) ≡ true
tail_every gap suffix rest g s r =
    every_append is_tail gap (suffix ++ rest) (every_more is_white is_tail gap tail_white g)
    (every_append is_tail suffix rest (every_more is_letter is_tail suffix (λ x h. grind (arith, nat_tests, h)) s) (every_more is_white is_tail rest tail_white r))

-- ---- the whole number

-- the parts of the scan are those of the number
pub record Parts (text : List ℕ) (n : Number) : Type 0 where
  pub sign : sign_of text ≡ n.sign
  pub whole : run is_digit (after_sign text) ≡ n.whole
  pub fraction : fraction_of (at_fraction text) ≡ n.fraction
  pub exponent : exponent_of (at_exponent text) ≡ n.exponent
  pub tail : Tail (at_tail text) n.gap n.suffix n.rest

pub digits_parts : (a b : List ℕ) → every is_digit (a ++ b) ≡ true → (every is_digit a ≡ true) × (every is_digit b ≡ true)
digits_parts [] b h = (refl, h)
digits_parts (x ∷ a) b h =
    let later = digits_parts a b (every_tail is_digit x (a ++ b) h) in
    (rw (every_head is_digit x (a ++ b) h) later.0, later.1)

pub parts_of : (text : List ℕ) (n : Number) → IsNumber n → text ≡ number_text n → Parts text n
parts_of text n h e =
    let r3 = n.gap ++ (n.suffix ++ n.rest) in
    let r2 = exponent_text n.exponent ++ r3 in
    let r1 = fraction_text n.fraction ++ r2 in
    let white = sym (white_every n.gap) ∙ h.gap in
    let letters = sym (letters_every n.suffix) ∙ h.suffix in
    let end = sym (white_every n.rest) ∙ h.rest in
    let digits = digits_parts n.whole (fraction_digits n.fraction) (sym (digits_every (mantissa n)) ∙ h.digits) in
    let power = exponent_found n.exponent r3 h.exponent (tail_every n.gap n.suffix n.rest white letters end) in
    let fraction = fraction_found n.fraction r2 digits.1 power.2 in
    let stop = fraction_first n.fraction r2 power.2 in
    let sign = sign_found n.sign (n.whole ++ r1) (leads_mantissa n.whole n.fraction r2 h.some digits.0) in
    let unsigned : after_sign text ≡ n.whole ++ r1 = ap after_sign e ∙ sign.1 in
    let at_point : at_fraction text ≡ r1 = ap (left is_digit) unsigned ∙ left_at is_digit n.whole r1 digits.0 stop in
    let at_power : at_exponent text ≡ r2 = ap after_fraction at_point ∙ fraction.1 in
    let at_end : at_tail text ≡ r3 = ap after_exponent at_power ∙ power.1 in
    record {
      sign = ap sign_of e ∙ sign.0;
      whole = ap (run is_digit) unsigned ∙ run_at is_digit n.whole r1 digits.0 stop;
      fraction = ap fraction_of at_point ∙ fraction.0;
      exponent = ap exponent_of at_power ∙ power.0;
      tail = subst (λ (z : List ℕ). Tail z n.gap n.suffix n.rest) (sym at_end) (tail_found n.gap n.suffix n.rest white h.no_gap letters end);
    }

pub scanned_is : (text : List ℕ) (n : Number) → IsNumber n → text ≡ number_text n → scanned text ≡ n
scanned_is text n h e =
    let p = parts_of text n h e in
    rw (p.tail.end_is, p.tail.gap_is, p.tail.suffix_is, p.exponent, p.fraction, p.whole, p.sign) refl

-- ---- texts that are numbers

some_mantissa : (xs : List ℕ) → 0 < length xs → is_nonempty xs ≡ true
some_mantissa [] h = absurd (omega (arith, h))
some_mantissa (x ∷ xs) h = refl

pub number_out : (text : List ℕ) (n : Number) → IsNumber n → text ≡ number_text n → is_number text ≡ true
number_out text n h e =
    let some : is_nonempty (mantissa (scanned text)) ≡ true = ap (λ (z : Number). is_nonempty (mantissa z)) (scanned_is text n h e) ∙ some_mantissa (mantissa n) h.some in
    rw (some, (parts_of text n h e).tail.none) refl

pub no_number : (text : List ℕ) → is_number text ≡ false → (n : Number) → IsNumber n → text ≡ number_text n → ⊥
no_number text f n h e = absurd (cc (f, number_out text n h e))

-- ---- one value

pub one_value : (text : List ℕ) (places : ℕ) (r q : Result ℤ ScpiError) → NumberGives text places r → NumberGives text places q → r ≡ q
one_value text places r q (inl g) (inl h) =
    let same : g.0 ≡ h.0 = sym (scanned_is text g.0 g.1 g.2) ∙ scanned_is text h.0 h.1 h.2 in
    g.3 ∙ ap (λ (n : Number). reading_of n places) same ∙ sym h.3
one_value text places r q (inl g) (inr h) = absurd (h.0 g.0 g.1 g.2)
one_value text places r q (inr g) (inl h) = absurd (g.0 h.0 h.1 h.2)
one_value text places r q (inr g) (inr h) = g.1 ∙ sym h.1

pub one_number : (m n : Number) → IsNumber m → IsNumber n → number_text m ≡ number_text n → m ≡ n
one_number m n h k e = sym (scanned_is (number_text m) m h refl) ∙ scanned_is (number_text m) n k e
