-- Lists of distinct elements, and what holds of all of them.
use Rattle.std.proofs.Common.{◌≡◌, ◌≢◌, ℕ, zero, suc, ◌<◌, List, [], ◌∷◌, ◌++◌, length, get_or, take, sym, ◌∙◌, ap, arith}
use Rattle.std.specs.List.{AllByRecursion}
use Rattle.psu_pages.specs.Image.{IsNone, AreApart, AreClear}

pub all_map : {X : Type 0} (P Q : X → Type 0) → ((x : X) → P x → Q x) → (xs : List X) → AllByRecursion P xs → AllByRecursion Q xs
all_map P Q f [] all = tt
all_map P Q f (x ∷ xs) all = (f x all.0, all_map P Q f xs all.1)

pub all_left : {X : Type 0} (P : X → Type 0) (xs ys : List X) → AllByRecursion P (xs ++ ys) → AllByRecursion P xs
all_left P [] ys all = tt
all_left P (x ∷ xs) ys all = (all.0, all_left P xs ys all.1)

pub all_right : {X : Type 0} (P : X → Type 0) (xs ys : List X) → AllByRecursion P (xs ++ ys) → AllByRecursion P ys
all_right P [] ys all = all
all_right P (x ∷ xs) ys all = all_right P xs ys all.1

pub all_join : {X : Type 0} (P : X → Type 0) (xs ys : List X) → AllByRecursion P xs → AllByRecursion P ys → AllByRecursion P (xs ++ ys)
all_join P [] ys a b = b
all_join P (x ∷ xs) ys a b = (a.0, all_join P xs ys a.1 b)

pub all_at : {X : Type 0} (P : X → Type 0) (xs : List X) (i : ℕ) (d : X) → i < length xs → AllByRecursion P xs → P (get_or xs i d)
all_at P [] i d lt all = absurd (omega (arith, lt))
all_at P (x ∷ xs) zero d lt all = all.0
all_at P (x ∷ xs) (suc i) d lt all = all_at P xs i d (omega (arith, lt)) all.1

pub all_take : {X : Type 0} (P : X → Type 0) (n : ℕ) (xs : List X) → AllByRecursion P xs → AllByRecursion P (take n xs)
all_take P zero [] all = tt
all_take P (suc n) [] all = tt
all_take P zero (x ∷ xs) all = tt
all_take P (suc n) (x ∷ xs) all = (all.0, all_take P n xs all.1)

-- an element isn't among those before it
pub none_before : {X : Type 0} (xs : List X) (i : ℕ) (d : X) → i < length xs → AreApart xs → IsNone (take i xs) (get_or xs i d)
none_before [] i d lt apart = absurd (omega (arith, lt))
none_before (x ∷ xs) zero d lt apart = tt
none_before {X} (x ∷ xs) (suc i) d lt apart =
    let within : i < length xs = omega (arith, lt) in
    let other : x ≢ get_or xs i d = all_at (λ (y : X). x ≢ y) xs i d within apart.0 in
    (λ same. other (sym same), none_before xs i d within apart.1)

pub apart_take : {X : Type 0} (n : ℕ) (xs : List X) → AreApart xs → AreApart (take n xs)
apart_take zero [] apart = tt
apart_take (suc n) [] apart = tt
apart_take zero (x ∷ xs) apart = tt
apart_take {X} (suc n) (x ∷ xs) apart = (all_take (λ (y : X). x ≢ y) n xs apart.0, apart_take n xs apart.1)

pub apart_left : {X : Type 0} (xs ys : List X) → AreApart (xs ++ ys) → AreApart xs
apart_left [] ys apart = tt
apart_left {X} (x ∷ xs) ys apart = (all_left (λ (y : X). x ≢ y) xs ys apart.0, apart_left xs ys apart.1)

pub apart_right : {X : Type 0} (xs ys : List X) → AreApart (xs ++ ys) → AreApart ys
apart_right [] ys apart = apart
apart_right (x ∷ xs) ys apart = apart_right xs ys apart.1

-- one more at the end
pub apart_more : {X : Type 0} (xs : List X) (x : X) → AreApart xs → IsNone xs x → AreApart (xs ++ x ∷ [])
apart_more [] x apart none = (tt, tt)
apart_more {X} (y ∷ xs) x apart none = (all_join (λ (z : X). y ≢ z) xs (x ∷ []) apart.0 (λ same. none.0 (sym same), tt), apart_more xs x apart.1 none.1)

-- two lists with no element in common: the first element, the rest, and the two lists exchanged
clear_first : (x : ℕ) (xs ys : List ℕ) → AreClear (x ∷ xs) ys → IsNone ys x
clear_first x xs = all_map (IsNone (x ∷ xs)) (λ (y : ℕ). x ≢ y) (λ y none same. none.0 (sym same))

clear_rest : (x : ℕ) (xs ys : List ℕ) → AreClear (x ∷ xs) ys → AreClear xs ys
clear_rest x xs = all_map (IsNone (x ∷ xs)) (IsNone xs) (λ y none. none.1)

pub clear_swap : (xs ys : List ℕ) → AreClear xs ys → AreClear ys xs
clear_swap [] ys clear = tt
clear_swap (x ∷ xs) ys clear = (clear_first x xs ys clear, clear_swap xs ys (clear_rest x xs ys clear))

pub clear_none : (pages : List ℕ) → AreClear [] pages
clear_none [] = tt
clear_none (p ∷ pages) = (tt, clear_none pages)

-- two lists of distinct elements with none in common, appended, and back
pub apart_join : (xs ys : List ℕ) → AreApart xs → AreApart ys → AreClear xs ys → AreApart (xs ++ ys)
apart_join [] ys a b clear = b
apart_join (x ∷ xs) ys a b clear = (all_join (λ (z : ℕ). x ≢ z) xs ys a.0 (clear_first x xs ys clear), apart_join xs ys a.1 b (clear_rest x xs ys clear))

pub apart_clear : (xs ys : List ℕ) → AreApart (xs ++ ys) → AreClear xs ys
apart_clear [] ys apart = clear_none ys
apart_clear (x ∷ xs) ys apart = clear_swap ys (x ∷ xs) (all_right (λ (z : ℕ). x ≢ z) xs ys apart.0, clear_swap xs ys (apart_clear xs ys apart.1))

-- elements for which a function has different results are distinct
pub none_by : {X B : Type 0} (f : X → B) (a b : B) → (a ≡ b → ⊥) → (xs : List X) (x : X) → AllByRecursion (λ (y : X). f y ≡ a) xs → f x ≡ b → IsNone xs x
none_by f a b differ [] x all is = tt
none_by f a b differ (y ∷ xs) x all is = (λ same. differ (sym all.0 ∙ ap f (sym same) ∙ is), none_by f a b differ xs x all.1 is)

pub clear_by : {B : Type 0} (f : ℕ → B) (a b : B) → (a ≡ b → ⊥) → (xs ys : List ℕ) → AllByRecursion (λ (y : ℕ). f y ≡ a) xs → AllByRecursion (λ (y : ℕ). f y ≡ b) ys → AreClear xs ys
clear_by f a b differ xs [] all others = tt
clear_by f a b differ xs (y ∷ ys) all others = (none_by f a b differ xs y all others.0, clear_by f a b differ xs ys all others.1)
