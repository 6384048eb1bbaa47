-- A disk as data, the effect of its calls on it, and its possible crash images.
use Rattle.std.specs.Prelude.{Bool, true, false, slice_index_or, ◌<◌, ◌≡◌, ◌⊎◌, ℕ, ◌+◌, ◌≤◌, ◌^◌, List, ◌++◌, length, take, drop, slice_index, Result, IsOk, IsErr}
use Rattle.psu_disk.specs.declared.faults.DiskFault.{DiskFault}

-- n bytes from `at` on
abbrev pub Range : ℕ → ℕ → List ℕ → List ℕ
Range at n bytes = take n (drop at bytes)

-- new is old with these bytes at `at`
abbrev pub Holds : ℕ → List ℕ → List ℕ → List ℕ → Type 0
Holds at bytes old new = new ≡ take at old ++ (bytes ++ drop (at + length bytes) old)

-- new is old except for n bytes from `at` on, which may be any
pub record SameBut (at n : ℕ) (old new : List ℕ) : Type 0 where
  pub size : length new ≡ length old
  pub below : (k : ℕ) → k < at → slice_index new k ≡ slice_index old k
  pub above : (k : ℕ) → at + n ≤ k → slice_index new k ≡ slice_index old k

-- A disk: its bytes, and a flag for each byte in a range written since the last successful sync. A byte with no flag
-- isn't in one.
pub record DiskState : Type 0 where
  pub bytes : List ℕ
  pub unsynced : List Bool

abbrev pub is_unsynced : DiskState → ℕ → Bool
is_unsynced disk k = slice_index_or disk.unsynced k false

-- x has the disk's size, and is the same as the disk in each byte that isn't flagged
pub record AgreesWhereSynced (disk : DiskState) (x : List ℕ) : Type 0 where
  pub size : length x ≡ length disk.bytes
  pub same : (k : ℕ) → is_unsynced disk k ≡ false → slice_index x k ≡ slice_index disk.bytes k

-- x is a possible crash image. (Folded: the proofs of the layers above use it without its definition.)
unfoldable pub IsCrashImage : DiskState → List ℕ → Type 0
IsCrashImage disk x = AgreesWhereSynced disk x

-- no byte is flagged
abbrev pub IsSynced : DiskState → Type 0
IsSynced disk = (k : ℕ) → is_unsynced disk k ≡ false

-- each of n bytes from `at` on is flagged
abbrev pub IsFlagged : ℕ → ℕ → DiskState → Type 0
IsFlagged at n disk = (k : ℕ) → at ≤ k → k < at + n → is_unsynced disk k ≡ true

-- new is old except for n bytes from `at` on, which may be any and may be flagged; no flag is cleared
pub record Touches (at n : ℕ) (old new : DiskState) : Type 0 where
  pub bytes : SameBut at n old.bytes new.bytes
  pub others : (k : ℕ) → (k < at) ⊎ (at + n ≤ k) → is_unsynced new k ≡ is_unsynced old k
  pub stays : (k : ℕ) → is_unsynced old k ≡ true → is_unsynced new k ≡ true

-- the only possible crash image is what is read
abbrev pub Only : DiskState → Type 0
Only disk = (x : List ℕ) → IsCrashImage disk x → x ≡ disk.bytes

-- each possible crash image after a call is one from before the call, changed by this step
abbrev pub Follows : (List ℕ → List ℕ → Type 0) → (List ℕ → Type 0) → (List ℕ → Type 0) → Type 0
Follows step old new = (x : List ℕ) → new x → (y : List ℕ) × old y × step y x

-- Time passes: the possible crash images since t are those that there were before, and those that there are now.
pub record Elapses (before now : ℕ) (past since : ℕ → List ℕ → Type 0) (left : List ℕ → Type 0) : Type 0 where
  pub later : before ≤ now
  pub nothing_else : (t : ℕ) (x : List ℕ) → t ≤ before → since t x → past t x ⊎ left x
  pub keeps : (t : ℕ) (x : List ℕ) → t ≤ before → past t x → since t x

-- Each possible crash image at any moment since old has P.
pub record LeavesOnly {D : Type 0} (moment : D → ℕ) (left_since : D → ℕ → List ℕ → Type 0) (old new : D) (P : List ℕ → Type 0) : Type 0 where
  pub later : moment old ≤ moment new
  pub each : (x : List ℕ) → left_since new (moment old) x → P x
  -- for a run that began earlier
  pub before : (t : ℕ) (x : List ℕ) → t ≤ moment old → left_since new t x → left_since old t x ⊎ P x

-- the count of failures is at its maximum
abbrev pub IsLast : ℕ → Type 0
IsLast failures = 2 ^ 64 ≤ failures + 1

-- the count rose, or is at its maximum
abbrev pub HasFailed : ℕ → ℕ → Type 0
HasFailed before now = (before < now) ⊎ IsLast now

-- A successful call leaves the count unchanged; an error is returned only if the count rose or is at its maximum.
pub record HasCause {T : Type 0} (before now : ℕ) (result : Result T DiskFault) : Type 0 where
  pub works : IsOk result → now ≡ before
  pub later : before ≤ now
  pub cause : IsErr result → HasFailed before now
