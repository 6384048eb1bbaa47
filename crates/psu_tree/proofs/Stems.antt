-- A word without its number: the loop that steps back over digits.
use Rattle.std.proofs.Common.{◌≡◌, ℕ, zero, suc, ◌-◌, ◌<◌, ◌≤◌, length, take, drop, slice_index, drop-cons, true, false, List, [], ◌∷◌, refl, ap, arith, inl, inr}
use Rattle.std.proofs.lemmas.Bool.{cases_Bool}
use Rattle.psu_lex.specs.Bytes.{is_digit, all_digits}
use Rattle.psu_tree.specs.Headers.{stem}
use Rattle.psu_tree.specs.Scans.{digit_before}

not_all : (word : List ℕ) (k : ℕ) → k < length word → is_digit (slice_index word k) ≡ false → all_digits word ≡ false
not_all [] k lt h = absurd (omega (arith, lt))
not_all (x ∷ word) zero lt h = rw h refl
not_all (x ∷ word) (suc k) lt h = elim (cases_Bool (is_digit x)) [
  | inl t ↦ rw t (not_all word k (omega (arith, lt)) h)
  | inr f ↦ rw f refl
]

pub stem_at : (word : List ℕ) (end : ℕ) → end ≤ length word → all_digits (drop end word) ≡ true → digit_before word end ≡ false → take end word ≡ stem word
stem_at [] zero le h d = refl
stem_at [] (suc end) le h d = absurd (omega (arith, le))
stem_at (x ∷ word) zero le h d = rw h refl
stem_at (x ∷ word) (suc zero) le h d =
    rw (not_all (x ∷ word) 0 (omega arith) d) (ap (λ (z : List ℕ). x ∷ z) (stem_at word zero (omega arith) h refl))
stem_at (x ∷ word) (suc (suc end)) le h d =
    rw (not_all (x ∷ word) (suc end) (omega (arith, le)) d) (ap (λ (z : List ℕ). x ∷ z) (stem_at word (suc end) (omega (arith, le)) h d))

pub digit_step : (word : List ℕ) (end : ℕ) → end ≤ length word → all_digits (drop end word) ≡ true → digit_before word end ≡ true → all_digits (drop (end - 1) word) ≡ true
digit_step word zero le h d = absurd (cc (d))
digit_step word (suc k) le h d =
    let e : suc k - 1 ≡ k = omega arith in
    rw (e, drop-cons word k 0 (omega (arith, le)), d) h
