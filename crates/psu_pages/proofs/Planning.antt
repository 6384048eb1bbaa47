-- Pages are claimed for a head, or released.
use Rattle.std.proofs.Common.{◌≡◌, ℕ, zero, suc, ◌+◌, ◌*◌, ◌<◌, ◌≤◌, Bool, true, false, List, [], ◌∷◌, length, get_or, take, length-take-le, sym, ◌∙◌, ap, subst, arith}
use Rattle.std.specs.List.{AllByRecursion, remove}
use Rattle.psu_pages.specs.Image.{Head, IsInPool, IsNone, AreApart, head_of, pages_of}
use Rattle.psu_pages.specs.Free.{is_free, free_pages, Marks, AreClaimed}
use Rattle.psu_pages.proofs.Lists.{all_map, all_take, apart_take, clear_by}
use Rattle.psu_pages.proofs.Marking.{free_apart, free_are, claimed_still}

-- a free page is not a root's
pub two_least : (free : List Bool) → is_free free 0 ≡ false → is_free free 1 ≡ false → (p : ℕ) → is_free free p ≡ true → 2 ≤ p
two_least free first second zero is = let no : false ≡ true = sym first ∙ is in absurd (cc)
two_least free first second (suc zero) is = let no : false ≡ true = sym second ∙ is in absurd (cc)
two_least free first second (suc (suc p)) is = omega arith

-- the first of the free pages
module _ (limit : ℕ) (free : List Bool) (sized : length free ≡ 2 + 2 * limit) (first : is_free free 0 ≡ false) (second : is_free free 1 ≡ false) (n : ℕ) (pages : List ℕ) (is : pages ≡ take n (free_pages free)) where
  pub were_free : AllByRecursion (λ (p : ℕ). is_free free p ≡ true) pages
  were_free = subst (AllByRecursion (λ (p : ℕ). is_free free p ≡ true)) (sym is)
      (all_take (λ (p : ℕ). is_free free p ≡ true) n (free_pages free) (all_map (λ (p : ℕ). (is_free free p ≡ true) × (p < length free)) (λ (p : ℕ). is_free free p ≡ true) (λ p has. has.0) (free_pages free) (free_are free)))

  pub are_apart : AreApart pages
  are_apart = subst AreApart (sym is) (apart_take n (free_pages free) (free_apart 0 free))

  pub in_pool : AllByRecursion (IsInPool limit) pages
  in_pool = subst (AllByRecursion (IsInPool limit)) (sym is)
      (all_take (IsInPool limit) n (free_pages free) (all_map (λ (p : ℕ). (is_free free p ≡ true) × (p < length free)) (IsInPool limit) (λ p has. (two_least free first second p has.0, omega (arith, has.1, sized))) (free_pages free) (free_are free)))

-- the first page is the head's, and the rest are the value's
pub first_and_rest : (pages rest : List ℕ) (at : ℕ) → 1 ≤ length pages → at ≡ get_or pages 0 at → rest ≡ remove pages 0 → at ∷ rest ≡ pages
first_and_rest [] rest at le is last = absurd (omega (arith, le))
first_and_rest (p ∷ pages) rest at le is last = ap (λ (q : ℕ). q ∷ rest) is ∙ ap (λ (l : List ℕ). p ∷ l) last

-- a head of the first free pages, of which there are as many as it takes
pub pages_are : (free : List Bool) (n at size : ℕ) (key pages rest : List ℕ) (head : Head) → 1 ≤ n → n ≤ length (free_pages free) → pages ≡ take n (free_pages free) → at ≡ get_or pages 0 at → rest ≡ remove pages 0
    → head ≡ head_of at key size rest → pages_of head ≡ take n (free_pages free)
pages_are free n at size key pages rest head some enough is first others so =
    let long : length pages ≡ n = ap length is ∙ length-take-le n (free_pages free) enough in
    ap pages_of so ∙ first_and_rest pages rest at (omega (arith, long, some)) first others ∙ is

-- pages that were claimed stay so while free ones are claimed
module _ (pages : List ℕ) (old new : List Bool) (free : AllByRecursion (λ (p : ℕ). is_free old p ≡ true) pages) (claims : Marks false pages old new) where
  pub kept_claimed : (others : List ℕ) → AreClaimed old others → AreClaimed new others
  kept_claimed others were = claimed_still false pages others old new claims were (clear_by (is_free old) true false (λ same. cc) pages others free were)

-- pages of the pool are not the roots'
pub none_root : (limit : ℕ) (pages : List ℕ) (root : ℕ) → root < 2 → AllByRecursion (IsInPool limit) pages → IsNone pages root
none_root limit [] root low pool = tt
none_root limit (p ∷ pages) root low pool = (λ same. omega (arith, same, low, pool.0.0), none_root limit pages root low pool.1)

pub pool_within : (limit size : ℕ) (pages : List ℕ) → size ≡ 2 + 2 * limit → AllByRecursion (IsInPool limit) pages → AllByRecursion (λ (p : ℕ). p < size) pages
pool_within limit size pages is = all_map (IsInPool limit) (λ (p : ℕ). p < size) (λ p pool. omega (arith, pool.1, is)) pages
