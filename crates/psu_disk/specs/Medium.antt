-- A file of a system with a page cache, as data: which of its bytes a later sync makes durable, and which it doesn't.
use Rattle.std.specs.Prelude.{◌≡◌, ◌⊎◌, ◌+◌, ◌≤◌, ◌<◌, ℕ, Bool, true, false, List, [], ◌∷◌, ◌++◌}
use Rattle.psu_disk.specs.declared.touched.Span.{Span}
use Rattle.psu_disk.specs.Disk.{DiskState, is_unsynced}
use Rattle.psu_disk.specs.Touched.{is_covered}

-- no byte is forgotten that wasn't before
abbrev pub NoneMore : (ℕ → Bool) → (ℕ → Bool) → Type 0
NoneMore old new = (k : ℕ) → old k ≡ false → new k ≡ false

-- none of n bytes from `at` on is forgotten
abbrev pub IsKnown : ℕ → ℕ → (ℕ → Bool) → Type 0
IsKnown at n forgotten = (k : ℕ) → at ≤ k → k < at + n → forgotten k ≡ false

-- a successful sync makes each byte durable that isn't forgotten, and leaves each durable byte durable
pub record Settles (old new : DiskState) (forgotten : ℕ → Bool) : Type 0 where
  pub safe : (k : ℕ) → forgotten k ≡ false → is_unsynced new k ≡ false
  pub fewer : (k : ℕ) → is_unsynced old k ≡ false → is_unsynced new k ≡ false

-- Unless there was no room for a range, the ranges cover each byte that a power loss may change. A power loss may
-- change each byte that they cover. Unless `failed` is set, no byte is forgotten: a sync that fails sets it, and only a
-- successful one clears it.
pub record CoversUnsynced (state : DiskState) (forgotten : ℕ → Bool) (spans : List Span) (full failed : Bool) : Type 0 where
  pub covers : full ≡ false → (k : ℕ) → is_unsynced state k ≡ true → is_covered spans k ≡ true
  pub flagged : (k : ℕ) → is_covered spans k ≡ true → is_unsynced state k ≡ true
  pub none : failed ≡ false → (k : ℕ) → forgotten k ≡ false

-- a range is added to the others, or they are full
abbrev pub KeepsRange : Span → List Span → List Span → Bool → Bool → Type 0
KeepsRange span old new full full' = ((new ≡ old ++ span ∷ []) × (full' ≡ full)) ⊎ ((new ≡ old) × (full' ≡ true))
