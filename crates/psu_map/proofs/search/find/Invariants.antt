use Rattle.std.proofs.Common.{◌≡◌, ℕ, ◌<◌, ◌≤◌, ◌-◌, length, map}
use Rattle.psu_map.specs.Map.{Before}
use Rattle.psu_map.specs.Place.{key_at}
use Rattle.psu_map.proofs.search.find.Given as goal

abbrev pub invariant-loop-low : goal.invariant-loop-low
invariant-loop-low g l =
    (l.low ≤ l.high) × (l.high ≤ length l.things) × ((j : ℕ) → j < l.low → Before (key_at (map g.T.Keyed.item l.things) j) l.key)
    × (l.high < length l.things → Before (key_at (map g.T.Keyed.item l.things) l.high) l.key → ⊥)
    × (l.high < length l.things → key_at (map g.T.Keyed.item l.things) l.high ≡ l.key → ⊥)

abbrev pub decreases-loop-low : goal.decreases-loop-low
decreases-loop-low g l = l.high - l.low
