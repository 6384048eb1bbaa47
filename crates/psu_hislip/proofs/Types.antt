-- Types and their codes.
use Rattle.std.proofs.Common.{◌≡◌, ℕ, zero, suc, ◌+◌, List, [], ◌∷◌, Some, refl, ap, arith}
use Rattle.std.specs.List.{slice_get}
use Rattle.psu_hislip.specs.MessageType.{code_of, type_of, types}
use Rattle.psu_hislip.specs.declared.message_type.MessageType.{MessageType}

-- the types from a code on
abbrev AreCoded : ℕ → List MessageType → Type 0
AreCoded n [] = Unit {0}
AreCoded n (t ∷ ts) = (code_of t ≡ n) × AreCoded (1 + n) ts

coded : (ts : List MessageType) (n k : ℕ) (t : MessageType) → AreCoded n ts → slice_get ts k ≡ Some t → code_of t ≡ k + n
coded [] n k t a e = absurd (cc)
coded (x ∷ ts) n zero t a e = let same : t ≡ x = cc in omega (arith, ap code_of same, a.0)
coded (x ∷ ts) n (suc k) t a e = omega (arith, coded ts (1 + n) k t a.1 e)

are_coded : AreCoded 0 types
are_coded = (refl, (refl, (refl, (refl, (refl, (refl, (refl, (refl, (refl, (refl, (refl, (refl, (refl, (refl, (refl, (refl, (refl, (refl, (refl, (refl, (refl, (refl, (refl, (refl, (refl, (refl, tt))))))))))))))))))))))))))

-- a code that has a type is the code of that type
pub code_of_type : (k : ℕ) (t : MessageType) → type_of k ≡ Some t → k ≡ code_of t
code_of_type k t e = omega (arith, coded types 0 k t are_coded e)
