-- The pool has room for the items of a target beside those that stay unchanged.
use Rattle.std.proofs.Common.{◌≡◌, ◌≢◌, ℕ, zero, suc, ◌+◌, ◌*◌, ◌/◌, ◌<◌, ◌≤◌, inl, inr, Bool, true, false, cond, nat_lt, List, [], ◌∷◌, ◌++◌, length, get_or, take, refl, sym, ap, subst, arith, length-append}
use Rattle.std.proofs.lemmas.Bool.{cases_eq, cases_lt}
use Rattle.std.proofs.lemmas.Bool.Decides.{nat_tests}
use Rattle.psu_pages.specs.Free.{is_free, free_from, free_pages}
use Rattle.psu_pages.specs.Image.{IsInPool, IsNone}
use Rattle.psu_pages.proofs.Lists.{all_left, all_right}
use Rattle.psu_map.specs.Map.{Item, cost}

-- how many of these pages have at least this number
above : ℕ → List ℕ → ℕ
above p [] = 0
above p (x ∷ xs) = cond (nat_lt x p) 0 1 + above p xs

one_above : (p x : ℕ) → cond (nat_lt x (suc p)) 0 1 ≤ cond (nat_lt x p) 0 1
one_above p x = elim (cases_lt x p) [
  | inl lt ↦ let this : nat_lt x (suc p) ≡ true = grind (arith, nat_tests, lt) in omega (arith, ap {B = ℕ} (λ (b : Bool). cond b 0 1) this)
  | inr ge ↦ let this : nat_lt x p ≡ false = grind (arith, nat_tests, ge) in omega (arith, ap {B = ℕ} (λ (b : Bool). cond b 0 1) this, at_most (nat_lt x (suc p)))
]
  where
    at_most : (b : Bool) → cond b 0 1 ≤ 1
    at_most true = omega arith
    at_most false = omega arith

above_next : (p : ℕ) (xs : List ℕ) → above (suc p) xs ≤ above p xs
unfolding above
above_next p [] = omega arith
above_next p (x ∷ xs) = omega (arith, one_above p x, above_next p xs)

above_taken : (p : ℕ) (xs : List ℕ) → (IsNone xs p → ⊥) → above (suc p) xs + 1 ≤ above p xs
unfolding above
above_taken p [] some = absurd (some tt)
above_taken p (x ∷ xs) some = elim (cases_eq x p) [
  | inl same ↦
      let this : nat_lt x (suc p) ≡ true = grind (arith, nat_tests, same) in
      let that : nat_lt x p ≡ false = grind (arith, nat_tests, same) in
      omega (arith, ap {B = ℕ} (λ (b : Bool). cond b 0 1) this, ap {B = ℕ} (λ (b : Bool). cond b 0 1) that, above_next p xs)
  | inr differs ↦ omega (arith, one_above p x, above_taken p xs (λ none. some (λ same. differs (sym same), none)))
]

above_all : (p : ℕ) (xs : List ℕ) → above p xs ≤ length xs
unfolding above
above_all p [] = omega arith
above_all p (x ∷ xs) = by_test (nat_lt x p) (above_all p xs)
  where
    by_test : (b : Bool) → above p xs ≤ length xs → cond b 0 1 + above p xs ≤ length (x ∷ xs)
    by_test true rest = omega (arith, rest)
    by_test false rest = omega (arith, rest)

-- if each page that is not free is one of these, all pages are at most as many as the free ones and these
free_left : (p : ℕ) (marks : List Bool) (xs : List ℕ) → ((i : ℕ) → i < length marks → get_or marks i false ≡ false → IsNone xs (p + i) → ⊥) → length marks ≤ length (free_from p marks) + above p xs
free_left p [] xs claimed = omega arith
free_left p (mark ∷ marks) xs claimed =
    let rest = free_left (p + 1) marks xs (λ i lt is none. claimed (suc i) (omega (arith, lt)) is (subst (IsNone xs) (omega arith) none)) in
    let next : suc p ≡ p + 1 = omega arith in
    by_mark mark (λ is none. claimed 0 (omega arith) is (subst (IsNone xs) (omega arith) none)) rest (subst (λ n. above n xs ≤ above p xs) next (above_next p xs)) (λ some. subst (λ n. above n xs + 1 ≤ above p xs) next (above_taken p xs some))
  where
    by_mark : (m : Bool) → (m ≡ false → IsNone xs p → ⊥) → length marks ≤ length (free_from (p + 1) marks) + above (p + 1) xs → above (p + 1) xs ≤ above p xs → ((IsNone xs p → ⊥) → above (p + 1) xs + 1 ≤ above p xs)
        → length (mark ∷ marks) ≤ length (cond m (p ∷ free_from (p + 1) marks) (free_from (p + 1) marks)) + above p xs
    by_mark true claimed rest less more = omega (arith, rest, less)
    by_mark false claimed rest less more = omega (arith, rest, more (claimed refl))

above_one : (page : ℕ) → (page ≡ 0 → ⊥) → (page ≡ 1 → ⊥) → 2 ≤ page
above_one zero first second = absurd (first refl)
above_one (suc zero) first second = absurd (second refl)
above_one (suc (suc page)) first second = omega arith

-- at least twice the limit, less the pages claimed for heads and for others, is free
pub room_left : (free : List Bool) (limit : ℕ) (heads others : List ℕ) → length free ≡ 2 + 2 * limit → ((page : ℕ) → IsInPool limit page → IsNone heads page → IsNone others page → is_free free page ≡ true)
    → 2 * limit ≤ length (free_pages free) + length heads + length others
room_left free limit heads others sized spare =
    let claimed : List ℕ = 0 ∷ 1 ∷ (heads ++ others) in
    let counted = free_left 0 free claimed (λ i lt is none. absurd (taken i lt is none)) in
    omega (arith, counted, above_all 0 claimed, length-append heads others, sized)
  where
    taken : (i : ℕ) → i < length free → get_or free i false ≡ false → IsNone (0 ∷ 1 ∷ (heads ++ others)) (0 + i) → ⊥
    taken i lt is none =
        let page : IsNone (0 ∷ 1 ∷ (heads ++ others)) i = subst (IsNone (0 ∷ 1 ∷ (heads ++ others))) (omega arith) none in
        let low : 2 ≤ i = above_one i page.0 page.1.0 in
        let is_spare : is_free free i ≡ true = spare i (low, omega (arith, lt, sized)) (all_left (λ y. i ≢ y) heads others page.1.1) (all_right (λ y. i ≢ y) heads others page.1.1) in
        cc

-- the cost of an item, added to that of the items before it
pub cost_more : (items : List Item) (n : ℕ) (d : Item) → n < length items → cost (take n items) + (1 + (length (let i = get_or items n d in i.value) + 511) / 512) ≤ cost items
cost_more [] n d lt = absurd (omega (arith, lt))
cost_more (i ∷ items) zero d lt = omega arith
cost_more (i ∷ items) (suc n) d lt = omega (arith, cost_more items n d (omega (arith, lt)))
