-- Lemmas on the lines of a text.
use Rattle.std.proofs.Common.{◌≡◌, ℕ, ◌+◌, ◌-◌, ◌==◌, ◌<◌, true, List, [], ◌∷◌, ◌++◌, length, take, drop, refl, sym, ap, ◌∙◌, arith, slice_index, inl, inr, Some, None, suc, add-one, drop-cons}
use Rattle.std.proofs.lemmas.Bool.{cases_Bool}
use Rattle.std.proofs.lemmas.List.{get_or-take, take-append-drop}
use Rattle.std.proofs.lemmas.Grind.{common_steps}
use Rattle.std.proofs.lemmas.Bool.Decides.{nat_tests}
use Rattle.memchr.specs.Find.{IsFirstByte, is_byte}
use Rattle.psu_examples.specs.Examples.{first_onto, lines_of}

abbrev Lacks : List ℕ → Type 0
Lacks s = (j : ℕ) → j < length s → ¬ (slice_index s j == 10 ≡ true)

lacks_tail : (x : ℕ) (s : List ℕ) → Lacks (x ∷ s) → Lacks s
lacks_tail x s h = λ j below. h (suc j) (omega (arith, below))

-- a line that ends
pub ended : (p r : List ℕ) → Lacks p → lines_of (p ++ 10 ∷ r) ≡ p ∷ lines_of r
ended [] r h = refl
ended (x ∷ p) r h = elim (cases_Bool (x == 10)) [
  | inl t ↦ absurd (h 0 (omega arith) t)
  | inr f ↦ rw f (ap (first_onto x) (ended p r (lacks_tail x p h)))
]

-- a last line that does not
pub unended : (x : ℕ) (p : List ℕ) → Lacks (x ∷ p) → lines_of (x ∷ p) ≡ (x ∷ p) ∷ []
unended x [] h = elim (cases_Bool (x == 10)) [
  | inl t ↦ absurd (h 0 (omega arith) t)
  | inr f ↦ rw f refl
]
unended x (y ∷ p) h = elim (cases_Bool (x == 10)) [
  | inl t ↦ absurd (h 0 (omega arith) t)
  | inr f ↦ rw f (ap (first_onto x) (unended y p (lacks_tail x (y ∷ p) h)))
]

-- the text up to the first line feed is the first line
first_line : (s : List ℕ) (at : ℕ) → IsFirstByte (is_byte 10) s (Some at) → lines_of s ≡ take at s ∷ lines_of (drop (at + 1) s)
first_line s at h =
    let within : at < length s = h.0.high in
    let is : slice_index s at ≡ 10 = grind (arith, nat_tests, h.1) in
    let lacks : Lacks (take at s) = λ j below t.
    let before : j < at = grind (arith, common_steps, below) in
    h.0.before j (omega arith) before (ap (λ (x : ℕ). x == 10) (sym (get_or-take at s j 0 before)) ∙ t) in
    let split : s ≡ take at s ++ 10 ∷ drop (at + 1) s =
    sym (take-append-drop at s) ∙ ap (λ (z : List ℕ). take at s ++ z) (drop-cons s at 0 within
    ∙ ap (λ (x : ℕ). x ∷ drop (suc at) s) is ∙ ap (λ (n : ℕ). 10 ∷ drop n s) (sym (add-one at))) in
    ap lines_of split ∙ ended (take at s) (drop (at + 1) s) lacks

whole_tail : (s : List ℕ) (n : ℕ) → take (length s - n) (drop n s) ≡ drop n s
whole_tail s n = grind (arith, common_steps)

-- the first line, with the rest as a range of the text
pub next : (s : List ℕ) (at : ℕ) → IsFirstByte (is_byte 10) s (Some at)
    → lines_of s ≡ take at s ∷ lines_of (take (length s - (at + 1)) (drop (at + 1) s))
next s at h = first_line s at h ∙ ap (λ (r : List ℕ). take at s ∷ lines_of r) (sym (whole_tail s (at + 1)))

-- without a line feed the whole text is one line
pub last_line : (s : List ℕ) → IsFirstByte (is_byte 10) s None → 0 < length s → lines_of s ≡ s ∷ []
last_line [] h some = absurd (omega (arith, some))
last_line (x ∷ s) h some = unended x s (λ j below. h j (omega arith) below)
