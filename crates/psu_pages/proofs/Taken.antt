-- The pages of heads, head by head.
use Rattle.std.proofs.Common.{◌≡◌, ◌≢◌, ℕ, zero, suc, ◌+◌, ◌<◌, ◌≤◌, List, [], ◌∷◌, ◌++◌, length, get_or, take, drop, refl, sym, ◌∙◌, ap, subst, append_assoc, arith, length-append}
use Rattle.std.specs.List.{AllByRecursion}
use Rattle.std.proofs.lemmas.List.{take_more, take-append-drop, append-nil}
use Rattle.psu_pages.specs.Image.{Head, IsNone, AreApart, AreClear, pages_of, taken, keys}
use Rattle.psu_pages.proofs.Lists.{all_left, all_right, all_join, apart_left, apart_right, apart_clear, clear_none}

pub taken_all : (P : ℕ → Type 0) (heads : List Head) (i : ℕ) (d : Head) → i < length heads → AllByRecursion P (taken heads) → AllByRecursion P (pages_of (get_or heads i d))
taken_all P [] i d lt all = absurd (omega (arith, lt))
taken_all P (h ∷ heads) zero d lt all = all_left P (pages_of h) (taken heads) all
taken_all P (h ∷ heads) (suc i) d lt all = taken_all P heads i d (omega (arith, lt)) (all_right P (pages_of h) (taken heads) all)

pub taken_apart : (heads : List Head) (i : ℕ) (d : Head) → i < length heads → AreApart (taken heads) → AreApart (pages_of (get_or heads i d))
taken_apart [] i d lt apart = absurd (omega (arith, lt))
taken_apart (h ∷ heads) zero d lt apart = apart_left (pages_of h) (taken heads) apart
taken_apart (h ∷ heads) (suc i) d lt apart = taken_apart heads i d (omega (arith, lt)) (apart_right (pages_of h) (taken heads) apart)

pub clear_join : (xs ys pages : List ℕ) → AreClear xs pages → AreClear ys pages → AreClear (xs ++ ys) pages
clear_join xs ys [] a b = tt
clear_join xs ys (p ∷ pages) a b = (all_join (λ (q : ℕ). p ≢ q) xs ys a.0 b.0, clear_join xs ys pages a.1 b.1)

pub taken_clear : (heads : List Head) (i : ℕ) (d : Head) → i < length heads → AreApart (taken heads) → AreClear (taken (take i heads)) (pages_of (get_or heads i d))
taken_clear [] i d lt apart = absurd (omega (arith, lt))
taken_clear (h ∷ heads) zero d lt apart = clear_none (pages_of h)
taken_clear (h ∷ heads) (suc i) d lt apart =
    clear_join (pages_of h) (taken (take i heads)) (pages_of (get_or heads i d))
    (taken_all (IsNone (pages_of h)) heads i d (omega (arith, lt)) (apart_clear (pages_of h) (taken heads) apart))
    (taken_clear heads i d (omega (arith, lt)) (apart_right (pages_of h) (taken heads) apart))

pub taken-append : (xs ys : List Head) → taken (xs ++ ys) ≡ taken xs ++ taken ys
taken-append [] ys = refl
taken-append (h ∷ xs) ys = ap (λ (l : List ℕ). pages_of h ++ l) (taken-append xs ys) ∙ sym (append_assoc (pages_of h) (taken xs) (taken ys))

pub taken_more : (heads : List Head) (i : ℕ) (d : Head) → i < length heads → taken (take (i + 1) heads) ≡ taken (take i heads) ++ pages_of (get_or heads i d)
taken_more heads i d lt =
    ap taken (take_more heads i d lt)
    ∙ taken-append (take i heads) (get_or heads i d ∷ [])
    ∙ ap (λ (l : List ℕ). taken (take i heads) ++ l) (append-nil (pages_of (get_or heads i d)))

-- the first heads, those between, and the last ones
pub taken_parts : (heads rest middle : List Head) (first n : ℕ) → rest ≡ drop first heads → middle ≡ take n rest → taken heads ≡ taken (take first heads) ++ (taken middle ++ taken (drop n rest))
taken_parts heads rest middle first n is so =
    ap taken (sym (take-append-drop first heads))
    ∙ taken-append (take first heads) (drop first heads)
    ∙ ap (λ (hs : List Head). taken (take first heads) ++ taken hs) (sym is ∙ sym (take-append-drop n rest))
    ∙ ap (λ (l : List ℕ). taken (take first heads) ++ l) (taken-append (take n rest) (drop n rest) ∙ ap (λ (hs : List Head). taken hs ++ taken (drop n rest)) (sym so))

-- what holds of all pages holds of those between
pub between_all : (P : ℕ → Type 0) (heads rest : List Head) (first n : ℕ) → rest ≡ drop first heads → AllByRecursion P (taken heads) → AllByRecursion P (taken (take n rest))
between_all P heads rest first n is all =
    all_left P (taken (take n rest)) (taken (drop n rest)) (all_right P (taken (take first heads)) (taken (take n rest) ++ taken (drop n rest)) (subst (AllByRecursion P) (taken_parts heads rest (take n rest) first n is refl) all))

pub between_apart : (heads rest : List Head) (first n : ℕ) → rest ≡ drop first heads → AreApart (taken heads) → AreApart (taken (take n rest))
between_apart heads rest first n is apart =
    apart_left (taken (take n rest)) (taken (drop n rest)) (apart_right (taken (take first heads)) (taken (take n rest) ++ taken (drop n rest)) (subst AreApart (taken_parts heads rest (take n rest) first n is refl) apart))

-- fewer heads have no more pages
pub taken_few : (heads : List Head) (n : ℕ) → length (taken (take n heads)) ≤ length (taken heads)
taken_few [] zero = omega arith
taken_few [] (suc n) = omega arith
taken_few (h ∷ heads) zero = omega arith
taken_few (h ∷ heads) (suc n) = omega (arith, taken_few heads n, length-append (pages_of h) (taken (take n heads)), length-append (pages_of h) (taken heads))

-- the keys of heads with one more
pub keys-append : (xs : List Head) (h : Head) → keys (xs ++ h ∷ []) ≡ keys xs ++ h.key ∷ []
keys-append [] h = refl
keys-append (x ∷ xs) h = ap (λ (l : List (List ℕ)). x.key ∷ l) (keys-append xs h)

pub keys_more : (heads : List Head) (i : ℕ) (d : Head) → i < length heads → keys (take (i + 1) heads) ≡ keys (take i heads) ++ (let h = get_or heads i d in h.key) ∷ []
keys_more heads i d lt = ap keys (take_more heads i d lt) ∙ keys-append (take i heads) (get_or heads i d)

-- a key that is not among the keys of heads differs from each head's key
pub key_differs : (key : List ℕ) (heads : List Head) (i : ℕ) (d : Head) → i < length heads → IsNone (keys heads) key → key ≢ (let one = get_or heads i d in one.key)
key_differs key [] i d lt none = absurd (omega (arith, lt))
key_differs key (x ∷ heads) zero d lt none = none.0
key_differs key (x ∷ heads) (suc i) d lt none = key_differs key heads i d (omega (arith, lt)) none.1

-- a key isn't among those of the heads before it
pub keys_before : (heads : List Head) (i : ℕ) (d : Head) → i < length heads → AreApart (keys heads) → IsNone (keys (take i heads)) (let h = get_or heads i d in h.key)
keys_before [] i d lt apart = absurd (omega (arith, lt))
keys_before (h ∷ heads) zero d lt apart = tt
keys_before (h ∷ heads) (suc i) d lt apart =
    let within : i < length heads = omega (arith, lt) in
    (λ same. key_differs h.key heads i d within apart.0 (sym same), keys_before heads i d within apart.1)
