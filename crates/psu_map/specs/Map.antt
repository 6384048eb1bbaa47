-- An ordered map as the list of its items, in the order of their keys.
use Rattle.std.specs.Prelude.{◌≡◌, ℕ, List, [], ◌∷◌, ◌+◌, ◌/◌, length, Option, Some, None, if◌then◌else◌, ⊤}
use Rattle.std.specs.Ordering.{nat_cmp, is_lt}
use Rattle.std.specs.declared.cmp.Ordering.TheVariants.{Less}
use Rattle.std.specs.Cmp.Lexicographic.{slice_cmp}
use Rattle.std.specs.Str.{bytes_eq}
use Rattle.std.specs.List.{AllByRecursion}

-- a key and its value
pub record Item : Type 0 where
  pub key : List ℕ
  pub value : List ℕ

-- the item with this key and this value
abbrev pub item_of : List ℕ → List ℕ → Item
item_of key value = record { key = key; value = value }

-- one key comes before another in byte order
abbrev pub Before : List ℕ → List ℕ → Type 0
Before a b = slice_cmp nat_cmp a b ≡ Less

-- the keys are strictly ascending, so none occurs twice
abbrev pub IsSorted : List Item → Type 0
IsSorted [] = ⊤
IsSorted (i ∷ items) = AllByRecursion (λ (j : Item). Before i.key j.key) items × IsSorted items

-- the value of a key: that of the first item that has it
abbrev pub get : List Item → List ℕ → Option (List ℕ)
get [] key = None
get (i ∷ items) key = if bytes_eq i.key key then Some i.value else get items key

-- the items, with this value at this key
abbrev pub put : List Item → List ℕ → List ℕ → List Item
put [] key value = item_of key value ∷ []
put (i ∷ items) key value =
    if bytes_eq i.key key then item_of key value ∷ items
    else (if is_lt (slice_cmp nat_cmp i.key key) then i ∷ put items key value
    else item_of key value ∷ i ∷ items)

-- the items with other keys
abbrev pub without : List Item → List ℕ → List Item
without [] key = []
without (i ∷ items) key = if bytes_eq i.key key then without items key else i ∷ without items key

-- the number of pages that the map costs: one for each item, and one for each started 512 bytes of its value
abbrev pub cost : List Item → ℕ
cost [] = 0
cost (i ∷ items) = (1 + (length i.value + 511) / 512) + cost items

-- new has this value at the key, and at every other key what old has
abbrev pub Sets : List Item → List Item → List ℕ → List ℕ → Type 0
Sets old new key value = (k : List ℕ) → get new k ≡ (if bytes_eq key k then Some value else get old k)

-- new has nothing at the key, and at every other key what old has
abbrev pub Removes : List Item → List Item → List ℕ → Type 0
Removes old new key = (k : List ℕ) → get new k ≡ (if bytes_eq key k then None else get old k)
