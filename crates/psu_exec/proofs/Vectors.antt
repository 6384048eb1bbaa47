-- Vectors whose lanes are compared.
use Rattle.std.proofs.Common.{◌≡◌, ℕ, suc, ◌+◌, ◌-◌, ◌*◌, ◌^◌, ◌≤◌, Bool, true, false, cond, List, [], ◌∷◌, ◌++◌, length, take, drop, refl, sym, ap, ◌∙◌, arith}
use Rattle.std.proofs.lemmas.Bool.Decides.{nat_tests}
use Rattle.std.proofs.lemmas.List.{drop-drop, length-drop, take-append-drop, take_all}
use Rattle.std.specs.Prelude.{nat_eq, IsTrue}
use Rattle.std.specs.Simd.Lanes.{zip2, mask_l}

-- the mask of lanes that are all the same has each bit set
pub all_same : (xs : List ℕ) → mask_l (zip2 nat_eq xs xs) + 1 ≡ 2 ^ length xs
all_same [] = refl
all_same (x ∷ xs) = at (nat_eq x x) refl (all_same xs)
  where
    at : (b : Bool) → nat_eq x x ≡ b → mask_l (zip2 nat_eq xs xs) + 1 ≡ 2 ^ length xs → (cond b 1 0 + 2 * mask_l (zip2 nat_eq xs xs)) + 1 ≡ 2 ^ suc (length xs)
    at true e rest = omega (arith, rest)
    at false e rest = absurd (let never : x ≡ x → ⊥ = grind (arith, nat_tests) in never refl)

-- lanes whose mask has each bit set are the same
pub same_lanes : (xs ys : List ℕ) → length xs ≡ length ys → mask_l (zip2 nat_eq xs ys) + 1 ≡ 2 ^ length xs → xs ≡ ys
same_lanes [] [] long full = refl
same_lanes (x ∷ xs) (y ∷ ys) long full = at (nat_eq x y) refl full (same_lanes xs ys (omega (arith, long)))
  where
    at : (b : Bool) → nat_eq x y ≡ b → (cond b 1 0 + 2 * mask_l (zip2 nat_eq xs ys)) + 1 ≡ 2 ^ suc (length xs) → (mask_l (zip2 nat_eq xs ys) + 1 ≡ 2 ^ length xs → xs ≡ ys) → x ∷ xs ≡ y ∷ ys
    at true e full rest =
        let first : x ≡ y = grind (arith, nat_tests) in
        ap (λ (z : ℕ). z ∷ xs) first ∙ ap (λ (l : List ℕ). y ∷ l) (rest (omega (arith, full)))
    at false e full rest = absurd (let bad : ⊥ = omega (arith, full) in bad)
same_lanes other another long full = absurd cc

-- whether sixteen lanes are the same, by the mask of their comparison
pub mask_tells : (m : ℕ) (xs ys : List ℕ) → m ≡ mask_l (zip2 nat_eq xs ys) → length xs ≡ 16 → length ys ≡ 16 → (IsTrue (nat_eq m 65535) → xs ≡ ys) × (xs ≡ ys → IsTrue (nat_eq m 65535))
mask_tells m xs ys is long as_long = (
  λ t. let full : m ≡ 65535 = grind (arith, nat_tests) in
      same_lanes xs ys (long ∙ sym as_long) (ap (λ (n : ℕ). n + 1) (sym is ∙ full) ∙ ap (λ (n : ℕ). 2 ^ n) (sym long)),
  λ same.
      let all = ap (λ (n : ℕ). n + 1) (is ∙ ap (λ (l : List ℕ). mask_l (zip2 nat_eq xs l)) (sym same)) ∙ all_same xs ∙ ap (λ (n : ℕ). 2 ^ n) long in
      let full : m ≡ 65535 = omega (arith, all) in
      grind (arith, nat_tests),
)

-- two lists of sixteen to thirty-two elements are the same if their first sixteen and their last sixteen are
pub same_by_ends : (xs ys : List ℕ) (n : ℕ) → length xs ≡ n → length ys ≡ n → 16 ≤ n → n ≤ 32 → take 16 xs ≡ take 16 ys → drop (n - 16) xs ≡ drop (n - 16) ys → xs ≡ ys
same_by_ends xs ys n long as_long least most front back =
    sym (take-append-drop 16 xs) ∙ ap (λ (l : List ℕ). l ++ drop 16 xs) front ∙ ap (λ (l : List ℕ). take 16 ys ++ l) (behind xs ∙ ap (drop (32 - n)) back ∙ sym (behind ys)) ∙ take-append-drop 16 ys
  where
    behind : (zs : List ℕ) → drop 16 zs ≡ drop (32 - n) (drop (n - 16) zs)
    behind zs = ap (λ (k : ℕ). drop k zs) (let sum : 16 ≡ (n - 16) + (32 - n) = omega (arith, least, most) in sum) ∙ sym (drop-drop (32 - n) (n - 16) zs)

-- the last elements, as a part that is cut to them
pub last_part : (xs : List ℕ) (k at : ℕ) → length xs ≤ at + 16 → length xs ≤ at + k → take 16 (take k (drop at xs)) ≡ drop at xs
last_part xs k at most fits =
    let long = length-drop at xs in
    ap (take 16) (take_all k (drop at xs) (omega (arith, long, fits))) ∙ take_all 16 (drop at xs) (omega (arith, long, most))
