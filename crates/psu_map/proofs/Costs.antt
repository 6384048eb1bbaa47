-- The cost of the remaining items.
use Rattle.std.proofs.Common.{◌≡◌, ℕ, zero, suc, ◌+◌, ◌/◌, ◌<◌, ◌≤◌, List, [], ◌∷◌, length, get_or, drop, refl, arith}
use Rattle.psu_map.specs.Map.{Item, cost}

cost_first : (items : List Item) (n : ℕ) (d : Item) → n < length items → cost (drop n items) ≡ (1 + (length (get_or items n d).value + 511) / 512) + cost (drop (suc n) items)
cost_first [] n d lt = absurd (omega arith)
cost_first (i ∷ items) zero d lt = refl
cost_first (i ∷ items) (suc n) d lt = cost_first items n d (omega arith)

pub cost_none : (items : List Item) (n : ℕ) → length items ≤ n → cost (drop n items) ≡ 0
cost_none [] zero le = refl
cost_none [] (suc n) le = refl
cost_none (i ∷ items) zero le = absurd (omega arith)
cost_none (i ∷ items) (suc n) le = cost_none items n (omega arith)
