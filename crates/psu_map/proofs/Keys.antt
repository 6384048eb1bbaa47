-- Comparing keys: their order, and whether they are the same.
use Rattle.std.proofs.Common.{◌≡◌, ℕ, true, false, List, refl, sym, ◌∙◌, ap, subst, arith}
use Rattle.std.specs.Str.{bytes_eq}
use Rattle.std.specs.Ordering.{nat_cmp, ordering_reverse, is_eq, is_lt}
use Rattle.std.specs.declared.cmp.Ordering.{Ordering}
use Rattle.std.specs.declared.cmp.Ordering.TheVariants.{Less, Equal, Greater}
use Rattle.std.specs.Cmp.Lexicographic.{slice_cmp}
use Rattle.std.proofs.lemmas.Cmp.{nat_list_cmp_total, tied_itself}
use Rattle.std.proofs.lemmas.Map.Text.{is_eq-slice_cmp}
use Rattle.std.proofs.lemmas.Slice.Eq.{bytes_eq-Decides}
use Rattle.psu_map.specs.Map.{Before}

pub same_key : (a b : List ℕ) → bytes_eq a b ≡ true → a ≡ b
same_key a b e = grind (arith, e, bytes_eq-Decides a b)

pub other_key : (a b : List ℕ) → (a ≡ b → ⊥) → bytes_eq a b ≡ false
other_key a b n = grind (arith, n, bytes_eq-Decides a b)

pub same_true : (a b : List ℕ) → a ≡ b → bytes_eq a b ≡ true
same_true a b e = grind (arith, e, bytes_eq-Decides a b)

-- no key comes before itself
pub never_before_itself : (a : List ℕ) → Before a a → ⊥
never_before_itself a lt = let tied = tied_itself nat_list_cmp_total a in cc

pub before_not_same : (a b : List ℕ) → Before a b → bytes_eq a b ≡ false
before_not_same a b lt = other_key a b (λ e. never_before_itself b (subst (λ x. Before x b) e lt))

pub after_not_same : (a b : List ℕ) → Before a b → bytes_eq b a ≡ false
after_not_same a b lt = other_key b a (λ e. never_before_itself b (subst (λ x. Before x b) (sym e) lt))

pub same_by_order : (a b : List ℕ) → slice_cmp nat_cmp a b ≡ Equal → a ≡ b
same_by_order a b e = same_key a b (sym (is_eq-slice_cmp a b) ∙ ap is_eq e)

pub other_by_order : (a b : List ℕ) → (slice_cmp nat_cmp a b ≡ Equal → ⊥) → a ≡ b → ⊥
other_by_order a b n e = n (subst (λ x. slice_cmp nat_cmp a x ≡ Equal) e (tied_itself nat_list_cmp_total a))

-- a key that doesn't come before another and isn't the same comes after it
pub turned : (a b : List ℕ) → (Before a b → ⊥) → (a ≡ b → ⊥) → Before b a
turned a b not_less not_same = by_order (slice_cmp nat_cmp a b) refl
  where
    by_order : (o : Ordering) → slice_cmp nat_cmp a b ≡ o → Before b a
    by_order Less e = absurd (not_less e)
    by_order Equal e = absurd (not_same (same_by_order a b e))
    by_order Greater e = nat_list_cmp_total.antisymm b a ∙ ap ordering_reverse e

pub is_lt-before : (a b : List ℕ) → Before a b → is_lt (slice_cmp nat_cmp a b) ≡ true
is_lt-before a b lt = ap is_lt lt

pub is_lt-not_before : (a b : List ℕ) → (Before a b → ⊥) → is_lt (slice_cmp nat_cmp a b) ≡ false
is_lt-not_before a b not_less = by_order (slice_cmp nat_cmp a b) refl
  where
    by_order : (o : Ordering) → slice_cmp nat_cmp a b ≡ o → is_lt (slice_cmp nat_cmp a b) ≡ false
    by_order Less e = absurd (not_less e)
    by_order Equal e = ap is_lt e
    by_order Greater e = ap is_lt e

pub before-is_lt : (a b : List ℕ) → is_lt (slice_cmp nat_cmp a b) ≡ true → Before a b
before-is_lt a b test = by_order (slice_cmp nat_cmp a b) refl
  where
    by_order : (o : Ordering) → slice_cmp nat_cmp a b ≡ o → Before a b
    by_order Less e = e
    by_order Equal e = let no : true ≡ false = sym test ∙ ap is_lt e in absurd cc
    by_order Greater e = let no : true ≡ false = sym test ∙ ap is_lt e in absurd cc

-- a key that differs from another and doesn't come before it comes after it
pub after-tests : (a b : List ℕ) → bytes_eq a b ≡ false → is_lt (slice_cmp nat_cmp a b) ≡ false → Before b a
after-tests a b other not_less =
    turned a b (λ lt. let no : true ≡ false = sym (is_lt-before a b lt) ∙ not_less in absurd cc) (λ same. let no : true ≡ false = sym (same_true a b same) ∙ other in absurd cc)
