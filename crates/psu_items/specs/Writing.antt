-- What a commit leaves unchanged.
use Rattle.std.specs.Prelude.{◌≡◌, ℕ, ◌+◌, ◌*◌, ◌≤◌, List, length, slice_index}
use Rattle.psu_disk.specs.Disk.{DiskState, IsCrashImage}
use Rattle.psu_pages.specs.Image.{Head, current_root, heads_in, value_in}
use Rattle.psu_map.specs.Batch.{Edit, KeepsValue}
use Rattle.psu_items.specs.Layout.{IsOneOf}

-- y equals x after the two roots and the pool
pub record SameAfterPool (limit : ℕ) (x y : List ℕ) : Type 0 where
  pub size : length y ≡ length x
  pub same : (k : ℕ) → 512 * (2 + 2 * limit) ≤ k → slice_index y k ≡ slice_index x k

-- The root of y names each head that the root of x names and whose value the edits keep: an unchanged item keeps its
-- pages.
abbrev pub KeepsHeads : List Edit → List ℕ → List ℕ → Type 0
KeepsHeads edits x y = (head : Head) → IsOneOf (heads_in (current_root x) x) head → KeepsValue edits head.key (value_in x head) → IsOneOf (heads_in (current_root y) y) head

-- for each possible crash image of the disk before, and each of the disk after
abbrev pub EachKeepsHeads : List Edit → DiskState → DiskState → Type 0
EachKeepsHeads edits old new = (x y : List ℕ) → IsCrashImage old x → IsCrashImage new y → KeepsHeads edits x y
