-- Ranges of a disk in memory that were written since its last sync.
use Rattle.std.specs.Prelude.{◌≡◌, ℕ, ◌<◌, ◌&&◌, ◌||◌, nat_lt, nat_le, List, [], ◌∷◌, length, Bool, true, false, slice_index, slice_index_or}
use Rattle.psu_disk.specs.declared.touched.Span.{Span}

-- a byte lies in a span: from its low end on, and below its high end
abbrev pub is_in : Span → ℕ → Bool
is_in span k = nat_le span.low k && nat_lt k span.high

-- a byte lies in one of them
abbrev pub is_covered : List Span → ℕ → Bool
is_covered [] k = false
is_covered (span ∷ spans) k = is_in span k || is_covered spans k

-- What is kept of the last sync: each marked byte lies in one of the spans, the spans lie in the disk, and where there
-- is no mark, the last sync made durable what a read returns.
pub record IsKeptUp (bytes synced : List ℕ) (unsynced : List Bool) (spans : List Span) : Type 0 where
  pub covered : (k : ℕ) → slice_index_or unsynced k false ≡ true → is_covered spans k ≡ true
  pub within : (k : ℕ) → is_covered spans k ≡ true → k < length bytes
  pub same : (k : ℕ) → slice_index_or unsynced k false ≡ false → slice_index synced k ≡ slice_index bytes k
