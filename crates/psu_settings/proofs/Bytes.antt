-- Two bytes of a number, the flags of a byte, and a list of seven.
use Rattle.std.proofs.Common.{◌≡◌, ℕ, zero, suc, ◌+◌, ◌/◌, ◌%◌, ◌<◌, ◌≤◌, not, eqb, List, [], ◌∷◌, length, get_or, refl, arith}
use Rattle.std.specs.Prelude.{bit_and}
use Rattle.std.specs.Int.{w16, from_be_bytes}
use Rattle.psu_settings.specs.Settings.{flag}

pub high : (a b n : ℕ) → a < 256 → b < 256 → n ≡ from_be_bytes w16 (a ∷ b ∷ []) → n / 256 % 256 ≡ a
high a b n la lb e = omega arith

pub low : (a b n : ℕ) → a < 256 → b < 256 → n ≡ from_be_bytes w16 (a ∷ b ∷ []) → n % 256 ≡ b
low a b n la lb e = omega arith

pub flags : (f : ℕ) → f ≤ 3 → flag (not (eqb (bit_and f 1) 0)) 1 + flag (not (eqb (bit_and f 2) 0)) 2 ≡ f
flags zero le = refl
flags (suc zero) le = refl
flags (suc (suc zero)) le = refl
flags (suc (suc (suc zero))) le = refl
flags (suc (suc (suc (suc n)))) le = absurd (omega arith)

pub seven : (l : List ℕ) → length l ≡ 7 → l ≡ get_or l 0 0 ∷ get_or l 1 0 ∷ get_or l 2 0 ∷ get_or l 3 0 ∷ get_or l 4 0 ∷ get_or l 5 0 ∷ get_or l 6 0 ∷ []
seven [] e = absurd (omega arith)
seven (a ∷ []) e = absurd (omega arith)
seven (a ∷ b ∷ []) e = absurd (omega arith)
seven (a ∷ b ∷ c ∷ []) e = absurd (omega arith)
seven (a ∷ b ∷ c ∷ d ∷ []) e = absurd (omega arith)
seven (a ∷ b ∷ c ∷ d ∷ f ∷ []) e = absurd (omega arith)
seven (a ∷ b ∷ c ∷ d ∷ f ∷ g ∷ []) e = absurd (omega arith)
seven (a ∷ b ∷ c ∷ d ∷ f ∷ g ∷ h ∷ []) e = refl
seven (a ∷ b ∷ c ∷ d ∷ f ∷ g ∷ h ∷ i ∷ l) e = absurd (omega arith)
