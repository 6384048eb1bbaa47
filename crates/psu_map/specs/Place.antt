-- The index of a key in a map, or the index at which it would be inserted.
use Rattle.std.specs.Prelude.{◌≡◌, ℕ, ◌<◌, ◌≤◌, slice_index_or, List, [], length}
use Rattle.psu_map.specs.Map.{Item, item_of, Before}

-- the key of the item at index j
abbrev pub key_at : List Item → ℕ → List ℕ
key_at items j = let found = slice_index_or items j (item_of [] []) in found.key

-- the index of a key: smaller keys before it, and no smaller key from it on
pub record IsPlace (items : List Item) (key : List ℕ) (at : ℕ) : Type 0 where
  pub bound : at ≤ length items
  pub below : (j : ℕ) → j < at → Before (key_at items j) key
  pub end : at < length items → Before (key_at items at) key → ⊥

-- the item at an index has the key
pub record IsAt (items : List Item) (key : List ℕ) (at : ℕ) : Type 0 where
  pub place : IsPlace items key at
  pub in_range : at < length items
  pub same : key_at items at ≡ key

-- no item has the key, and it would be inserted at this index
pub record IsGap (items : List Item) (key : List ℕ) (at : ℕ) : Type 0 where
  pub place : IsPlace items key at
  pub misses : at < length items → key_at items at ≡ key → ⊥
