-- A word that is longer than a mnemonic is not a form of it.
use Rattle.std.proofs.Common.{◌≡◌, ℕ, ◌<◌, ◌≤◌, ◌==◌, false, List, [], ◌∷◌, length, refl, arith, inl, inr}
use Rattle.std.proofs.Math.Bool.{and-false}
use Rattle.std.proofs.lemmas.Bool.{cases_Bool}
use Rattle.psu_tree.specs.Headers.{capital, is_form, is_small, same_letters, short}

longer : (a b : List ℕ) → length a < length b → same_letters a b ≡ false
longer [] [] lt = absurd (omega (arith, lt))
longer [] (y ∷ b) lt = refl
longer (x ∷ a) [] lt = absurd (omega (arith, lt))
longer (x ∷ a) (y ∷ b) lt = rw (longer a b (omega (arith, lt))) (and-false (capital x == capital y))

short_within : (name : List ℕ) → length (short name) ≤ length name
short_within [] = omega arith
short_within (x ∷ name) = elim (cases_Bool (is_small x)) [
  | inl t ↦ rw t (omega arith)
  | inr f ↦ let h = short_within name in rw f (omega (arith, h))
]

pub longer_than : (name word : List ℕ) → length name < length word → is_form name word ≡ false
longer_than name word lt =
    let h = short_within name in
    rw (longer (short name) word (omega (arith, h, lt)), longer name word lt) refl
