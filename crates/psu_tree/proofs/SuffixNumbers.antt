-- Numeric suffixes: they are digits, and capping a number at 5 on the way does not change the result.
use Rattle.std.proofs.Common.{◌≡◌, ℕ, ◌+◌, ◌*◌, ◌-◌, ◌≤◌, true, List, [], ◌∷◌, refl, arith, inl, inr}
use Rattle.std.specs.Prelude.{min}
use Rattle.std.proofs.lemmas.Bool.{cases_Bool, cases_lt}
use Rattle.psu_lex.specs.Bytes.{all_digits, value_after}
use Rattle.psu_tree.specs.Reading.{digits_of, suffix_of}

digits_are : (word : List ℕ) → all_digits (digits_of word) ≡ true
digits_are [] = refl
digits_are (x ∷ xs) = elim (cases_Bool (all_digits (x ∷ xs))) [
  | inl t ↦ rw t t
  | inr f ↦ rw f (digits_are xs)
]

first_digits : (ds others : List ℕ) → all_digits ds ≡ true → all_digits others ≡ true → all_digits (elim ds as (λ _. List ℕ) [ [] ↦ others | (d ∷ more) ↦ d ∷ more ]) ≡ true
first_digits [] others h k = k
first_digits (d ∷ more) others h k = h

pub suffix_digits : (words : List (List ℕ)) → all_digits (suffix_of words) ≡ true
suffix_digits [] = refl
suffix_digits (word ∷ words) = first_digits (digits_of word) (suffix_of words) (digits_are word) (suffix_digits words)

grows : (ds : List ℕ) (m : ℕ) → m ≤ value_after m ds
grows [] m = omega arith
grows (d ∷ ds) m = let h : 10 * m + (d - 48) ≤ value_after (10 * m + (d - 48)) ds = grows ds (10 * m + (d - 48)) in omega (arith, h)

pub held_to_5 : (ds : List ℕ) (m : ℕ) → min 5 (value_after (min m 5) ds) ≡ min 5 (value_after m ds)
held_to_5 ds m = elim (cases_lt m 5) [
  | inl lt ↦ let e : min m 5 ≡ m = omega (arith, lt) in rw e refl
  | inr le ↦ let a : min m 5 ≤ value_after (min m 5) ds = grows ds (min m 5) in let b : m ≤ value_after m ds = grows ds m in omega (arith, le, a, b)
]
