-- What a search of bytes says about the bytes before the position that it found, and about a string.
use Rattle.std.proofs.Common.{◌≡◌, ℕ, suc, ◌+◌, ◌-◌, ◌<◌, Bool, true, false, List, [], ◌∷◌, ◌++◌, length, take, drop, refl, sym, ap, ◌∙◌, arith, inl, inr, Some, None, slice_index, add-one, drop-cons, ◌==◌, length-drop}
use Rattle.std.proofs.lemmas.Bool.{cases_Bool, cases_lt, eq-eqb, ne_eqb}
use Rattle.std.proofs.lemmas.List.{take-append-drop, get_or-take, append-nil, drop_all}
use Rattle.std.proofs.lemmas.Grind.{common_steps}
use Rattle.memchr.specs.Find.{IsFirstByte, is_byte2}
use Rattle.psu_lex.specs.Scan.{has, after_piece, after_string}
use Rattle.std.proofs.lemmas.Bool.Decides.{nat_tests}
use Rattle.psu_lex.specs.Bytes.{starts, is_quote}

pub has_head : (test : ℕ → Bool) (x : ℕ) (xs : List ℕ) → has test (x ∷ xs) ≡ false → test x ≡ false
has_head test x xs h = grind (arith, common_steps, h)

pub has_tail : (test : ℕ → Bool) (x : ℕ) (xs : List ℕ) → has test (x ∷ xs) ≡ false → has test xs ≡ false
has_tail test x xs h = grind (arith, common_steps, h)

free_of : (test : ℕ → Bool) (s : List ℕ) → ((j : ℕ) → j < length s → ¬ (test (slice_index s j) ≡ true)) → has test s ≡ false
free_of test [] h = refl
free_of test (x ∷ s) h = elim (cases_Bool (test x)) [
  | inl t ↦ absurd (h 0 (omega arith) t)
  | inr f ↦ rw f (free_of test s (λ j below. h (suc j) (omega (arith, below))))
]

pub free_before : (test : ℕ → Bool) (s : List ℕ) (at : ℕ) → IsFirstByte test s (Some at) → has test (take at s) ≡ false
free_before test s at h =
    free_of test (take at s) (λ j below t.
    let within : j < at = grind (arith, common_steps, below) in
    h.0.before j (omega arith) within (ap test (sym (get_or-take at s j 0 within)) ∙ t))

pub free_all : (test : ℕ → Bool) (s : List ℕ) → IsFirstByte test s None → has test s ≡ false
free_all test s h = free_of test s (λ j below. h j (omega arith) below)

pub parts_at : (s : List ℕ) (at : ℕ) → at < length s → s ≡ take at s ++ slice_index s at ∷ drop (at + 1) s
parts_at s at within =
    sym (take-append-drop at s) ∙ ap (λ (z : List ℕ). take at s ++ z) (drop-cons s at 0 within ∙ ap (λ (n : ℕ). slice_index s at ∷ drop n s) (sym (add-one at)))

pub drop-add : (a b : ℕ) (s : List ℕ) → drop (a + b) s ≡ drop b (drop a s)
drop-add a b s = grind (arith, common_steps)

over_run : (q : ℕ) (front rest : List ℕ) → has (is_byte2 q 10) front ≡ false → after_string false q (front ++ rest) ≡ after_string false q rest
over_run q [] rest h = refl
over_run q (x ∷ front) rest h =
    let t = has_head (is_byte2 q 10) x front h in
    let plain : (x == q) ≡ false = grind (arith, common_steps, t) in
    let no_line : (x == 10) ≡ false = grind (arith, common_steps, t) in
    rw (plain, no_line) (over_run q front rest (has_tail (is_byte2 q 10) x front h))

pub string_none : (q : ℕ) (s : List ℕ) → IsFirstByte (is_byte2 q 10) s None → after_string false q s ≡ None
string_none q s h = ap (after_string false q) (sym (append-nil s)) ∙ over_run q s [] (free_all (is_byte2 q 10) s h)

string_at : (q : ℕ) (s : List ℕ) (at : ℕ) → IsFirstByte (is_byte2 q 10) s (Some at) → after_string false q s ≡ after_string false q (slice_index s at ∷ drop (at + 1) s)
string_at q s at h = ap (after_string false q) (parts_at s at h.0.high) ∙ over_run q (take at s) (slice_index s at ∷ drop (at + 1) s) (free_before (is_byte2 q 10) s at h)

pub string_broken : (q : ℕ) (s : List ℕ) (at : ℕ) → is_quote q ≡ true → IsFirstByte (is_byte2 q 10) s (Some at) → slice_index s at ≡ 10 → after_string false q s ≡ None
string_broken q s at k h is =
    let line : (10 == q) ≡ false = grind (arith, nat_tests, k) in
    string_at q s at h ∙ ap (λ (z : ℕ). after_string false q (z ∷ drop (at + 1) s)) is ∙ rw line refl

pub quote_at : (q : ℕ) (s : List ℕ) (at : ℕ) → IsFirstByte (is_byte2 q 10) s (Some at) → (slice_index s at ≡ 10 → ⊥) → after_string false q s ≡ after_string true q (drop (at + 1) s)
quote_at q s at h not_line =
    let is : slice_index s at ≡ q = grind (arith, nat_tests, h.1, not_line) in
    string_at q s at h ∙ rw (eq-eqb (slice_index s at) q is) refl

pub string_ends : (q : ℕ) (next : List ℕ) → starts q next ≡ false → after_string true q next ≡ Some next
string_ends q [] f = refl
string_ends q (x ∷ next) f = rw f refl

pub string_continues : (q : ℕ) (next : List ℕ) → starts q next ≡ true → after_string true q next ≡ after_string false q (drop 1 next)
string_continues q [] h = absurd (cc (h))
string_continues q (x ∷ next) h = rw h refl

pub string_in : (bytes rest : List ℕ) (q n : ℕ) → bytes ≡ q ∷ rest → (q ≡ 35 → ⊥) → is_quote q ≡ true → after_string false q rest ≡ Some (drop n rest) → after_piece bytes ≡ Some (drop (1 + n) bytes)
string_in bytes rest q n e f h s =
    let one : drop (1 + n) (q ∷ rest) ≡ drop n rest = drop-add 1 n (q ∷ rest) in
    rw (e, ne_eqb q 35 f, h, one) s

-- the position of the rest in the text
pub suffix : (text rest : List ℕ) (n : ℕ) → rest ≡ drop n text → drop (length text - length rest) text ≡ rest
suffix text rest n e = elim (cases_lt (length text) n) [
  | inl lt ↦
      let none : rest ≡ [] = e ∙ drop_all n text (omega arith) in
      let all : length text - length rest ≡ length text = omega (arith, ap length none) in
      rw all (drop_all (length text) text (omega arith) ∙ sym none)
  | inr le ↦
      let same : length text - length rest ≡ n = omega (arith, ap length e, length-drop n text) in
      rw same (sym e)
]
