-- What a scan of a number finds is a number whose spelling is the text.
use Rattle.std.proofs.Common.{◌≡◌, ℕ, ◌==◌, ◌||◌, ◌<◌, Bool, true, false, not, List, [], ◌∷◌, ◌++◌, length, drop, refl, sym, ap, ◌∙◌, if◌then◌else◌, arith, append_assoc, inl, inr, is_none}
use Rattle.std.proofs.lemmas.Bool.{cond_both, eqb-true, and_parts, cases_Bool}
use Rattle.std.proofs.lemmas.List.{append-nil}
use Rattle.psu_lex.specs.Bytes.{is_digit, is_letter, is_white, all_digits, all_white}
use Rattle.psu_lex.specs.Number.{Sign, IsNumber, ExponentHolds, sign_text, fraction_text, fraction_digits, exponent_text, number_text, mantissa}
use Rattle.psu_lex.specs.NumberScan.{run, left, sign_of, after_sign, fraction_of, after_fraction, exponent_with, exponent_from, exponent_of, after_exponent, is_nonempty, is_number, suffix_of, excess_of, at_fraction, at_exponent, at_tail, scanned}
use Rattle.psu_lex.proofs.Runs.{run_white, every, leads, digits_every, white_every, letters_every, run_left, run_every, left_at, every_append}

sign_split : (text : List ℕ) → sign_text (sign_of text) ++ after_sign text ≡ text
sign_split [] = refl
sign_split (x ∷ xs) = elim (cases_Bool (x == 43)) [
  | inl t ↦ let e : x ≡ 43 = eqb-true x 43 t in rw t (ap (λ (z : ℕ). z ∷ xs) (sym e))
  | inr f ↦ elim (cases_Bool (x == 45)) [
    | inl t ↦ let e : x ≡ 45 = eqb-true x 45 t in rw (f, t) (ap (λ (z : ℕ). z ∷ xs) (sym e))
    | inr g ↦ rw (f, g) refl
  ]
]

fraction_split : (text : List ℕ) → fraction_text (fraction_of text) ++ after_fraction text ≡ text
fraction_split [] = refl
fraction_split (x ∷ xs) = elim (cases_Bool (x == 46)) [
  | inl t ↦ let e : x ≡ 46 = eqb-true x 46 t in rw t (ap (λ (z : List ℕ). 46 ∷ z) (run_left is_digit xs) ∙ ap (λ (z : ℕ). z ∷ xs) (sym e))
  | inr f ↦ rw f refl
]

fraction_every : (text : List ℕ) → every is_digit (fraction_digits (fraction_of text)) ≡ true
fraction_every [] = refl
fraction_every (x ∷ xs) = elim (cases_Bool (x == 46)) [
  | inl t ↦ rw t (run_every is_digit xs)
  | inr f ↦ rw f refl
]

-- ---- the exponent

with_split : (before : List ℕ) (x : ℕ) (a : List ℕ) (s : Sign) (ds later whole : List ℕ) → (whole ≡ (before ++ x ∷ (a ++ (sign_text s ++ ds))) ++ later)
    → exponent_text (exponent_with before x a s ds) ++ (if is_none (exponent_with before x a s ds) then whole else later) ≡ whole
with_split before x a s [] later whole h = refl
with_split before x a s (d ∷ ds) later whole h = sym h

signed_parts : (before : List ℕ) (x : ℕ) (xs whole : List ℕ) → whole ≡ before ++ x ∷ xs
    → whole ≡ (before ++ x ∷ (run is_white xs ++ (sign_text (sign_of (left is_white xs)) ++ run is_digit (after_sign (left is_white xs))))) ++ left is_digit (after_sign (left is_white xs))
signed_parts before x xs whole e =
    let a = run is_white xs in
    let y = left is_white xs in
    let s = sign_text (sign_of y) in
    let z = after_sign y in
    let ds = run is_digit z in
    let l = left is_digit z in
    let digits : z ≡ ds ++ l = sym (run_left is_digit z) in
    let signed : y ≡ (s ++ ds) ++ l = sym (sign_split y) ∙ ap (λ (k : List ℕ). s ++ k) digits ∙ sym (append_assoc s ds l) in
    let all : xs ≡ (a ++ (s ++ ds)) ++ l = sym (run_left is_white xs) ∙ ap (λ (k : List ℕ). a ++ k) signed ∙ sym (append_assoc a (s ++ ds) l) in
    e ∙ ap (λ (k : List ℕ). before ++ x ∷ k) all ∙ sym (append_assoc before (x ∷ (a ++ (s ++ ds))) l)

from_split : (before ys whole : List ℕ) → whole ≡ before ++ ys
    → exponent_text (exponent_from before ys) ++ (if is_none (exponent_from before ys) then whole else left is_digit (after_sign (left is_white (drop 1 ys)))) ≡ whole
from_split before [] whole e = refl
from_split before (x ∷ xs) whole e = elim (cases_Bool (x == 69 || x == 101)) [
  | inl t ↦ rw t (with_split before x (run is_white xs) (sign_of (left is_white xs)) (run is_digit (after_sign (left is_white xs))) (left is_digit (after_sign (left is_white xs))) whole (signed_parts before x xs whole e))
  | inr f ↦ rw f refl
]

exponent_split : (text : List ℕ) → exponent_text (exponent_of text) ++ after_exponent text ≡ text
exponent_split text = from_split (run is_white text) (left is_white text) text (sym (run_left is_white text))

with_holds : (before : List ℕ) (x : ℕ) (a : List ℕ) (s : Sign) (ds : List ℕ) → all_white before ≡ true → (x == 69 || x == 101) ≡ true → all_white a ≡ true → all_digits ds ≡ true
    → ExponentHolds (exponent_with before x a s ds)
with_holds before x a s [] b l w d = tt
with_holds before x a s (d ∷ ds) b l w h = (b, l, w, h, omega arith)

from_holds : (before ys : List ℕ) → all_white before ≡ true → ExponentHolds (exponent_from before ys)
from_holds before [] b = tt
from_holds before (x ∷ xs) b = elim (cases_Bool (x == 69 || x == 101)) [
  | inl t ↦ rw t (with_holds before x (run is_white xs) (sign_of (left is_white xs)) (run is_digit (after_sign (left is_white xs))) b t
      (white_every (run is_white xs) ∙ run_every is_white xs) (digits_every (run is_digit (after_sign (left is_white xs))) ∙ run_every is_digit (after_sign (left is_white xs))))
  | inr f ↦ rw f tt
]

-- ---- the suffix and the white space around it

pub left_stops : (test : ℕ → Bool) (xs : List ℕ) → leads test (left test xs) ≡ false
left_stops test [] = refl
left_stops test (x ∷ xs) = elim (cases_Bool (test x)) [
  | inl t ↦ rw t (left_stops test xs)
  | inr f ↦ rw f f
]

tail_split_at : (d s : List ℕ) → s ≡ suffix_of d → excess_of d ≡ []
    → (if is_nonempty s then run is_white d else []) ++ (s ++ (if is_nonempty s then run is_white (left is_letter (left is_white d)) else run is_white d)) ≡ d
tail_split_at d [] e none =
    let y = left is_white d in
    let same : left is_letter y ≡ y = ap (λ (z : List ℕ). z ++ left is_letter y) e ∙ run_left is_letter y in
    let gone : y ≡ [] = sym (left_at is_white [] y refl (left_stops is_white d)) ∙ ap (left is_white) (sym same) ∙ none in
    sym (append-nil (run is_white d)) ∙ ap (λ (z : List ℕ). run is_white d ++ z) (sym gone) ∙ run_left is_white d
tail_split_at d (x ∷ s) e none =
    let y = left is_white d in
    let r = left is_letter y in
    let all : run is_white r ≡ r = sym (append-nil (run is_white r)) ∙ ap (λ (z : List ℕ). run is_white r ++ z) (sym none) ∙ run_left is_white r in
    let later : (x ∷ s) ++ run is_white r ≡ y = ap (λ (z : List ℕ). (x ∷ s) ++ z) all ∙ ap (λ (z : List ℕ). z ++ r) e ∙ run_left is_letter y in
    ap (λ (z : List ℕ). run is_white d ++ z) later ∙ run_left is_white d

-- ---- the whole number

some_length : (xs : List ℕ) → is_nonempty xs ≡ true → 0 < length xs
some_length [] h = absurd (cc (h))
some_length (x ∷ xs) h = omega arith

sound : (text : List ℕ) → is_nonempty (mantissa (scanned text)) ≡ true → IsNumber (scanned text)
sound text some =
    let d = at_tail text in
    record {
      digits = digits_every (mantissa (scanned text)) ∙ every_append is_digit (run is_digit (after_sign text)) (fraction_digits (fraction_of (at_fraction text))) (run_every is_digit (after_sign text)) (fraction_every (at_fraction text));
      some = some_length (mantissa (scanned text)) some;
      exponent = from_holds (run is_white (at_exponent text)) (left is_white (at_exponent text)) (run_white (at_exponent text));
      gap = cond_both (is_nonempty (suffix_of d)) (run is_white d) [] (λ (z : List ℕ). all_white z ≡ true) (λ some. run_white d) (λ none. refl);
      no_gap = λ none. rw none refl;
      suffix = letters_every (suffix_of d) ∙ run_every is_letter (left is_white d);
      rest = cond_both (is_nonempty (suffix_of d)) (run is_white (left is_letter (left is_white d))) (run is_white d) (λ (z : List ℕ). all_white z ≡ true)
          (λ some. run_white (left is_letter (left is_white d))) (λ none. run_white d);
    }

spelled : (text : List ℕ) → excess_of (at_tail text) ≡ [] → text ≡ number_text (scanned text)
spelled text none =
    let a = after_sign text in
    let b = at_fraction text in
    let c = at_exponent text in
    let d = at_tail text in
    sym (ap (λ (z : List ℕ). sign_text (sign_of text) ++ (run is_digit a ++ (fraction_text (fraction_of b) ++ (exponent_text (exponent_of c) ++ z)))) (tail_split_at d (suffix_of d) refl none)
    ∙ ap (λ (z : List ℕ). sign_text (sign_of text) ++ (run is_digit a ++ (fraction_text (fraction_of b) ++ z))) (exponent_split c)
    ∙ ap (λ (z : List ℕ). sign_text (sign_of text) ++ (run is_digit a ++ z)) (fraction_split b)
    ∙ ap (λ (z : List ℕ). sign_text (sign_of text) ++ z) (run_left is_digit a)
    ∙ sign_split text)

nothing : (xs : List ℕ) → not (is_nonempty xs) ≡ true → xs ≡ []
nothing [] h = refl
nothing (x ∷ xs) h = absurd (cc (h))

pub number_in : (text : List ℕ) → is_number text ≡ true → IsNumber (scanned text) × (text ≡ number_text (scanned text))
number_in text h =
    let parts = and_parts (is_nonempty (mantissa (scanned text))) (not (is_nonempty (excess_of (at_tail text)))) h in
    (sound text parts.0, spelled text (nothing (excess_of (at_tail text)) parts.1))
