-- The map that a commit is to store, and which of its items are unchanged.
use Rattle.std.specs.Prelude.{◌≡◌, ℕ, List, [], ◌∷◌, Bool, true, Option, Some, None, if◌then◌else◌, map}
use Rattle.std.specs.Str.{bytes_eq}
use Rattle.psu_map.specs.Map.{Item, item_of, get}

-- an item, and whether it is marked as unchanged
pub record Entry : Type 0 where
  pub key : List ℕ
  pub value : List ℕ
  pub stands : Bool

abbrev pub item_in : Entry → Item
item_in e = item_of e.key e.value

abbrev pub items_in : List Entry → List Item
items_in entries = map item_in entries

-- an unchanged item
abbrev pub stand : Item → Entry
stand i = record { key = i.key; value = i.value; stands = true }

-- the map before has an item that is marked as unchanged
abbrev pub IsOf : List Item → Entry → Type 0
IsOf before e = e.stands ≡ true → get before e.key ≡ Some e.value

-- the value of the key's entry, if it is unchanged
abbrev pub standing : List Entry → List ℕ → Option (List ℕ)
standing [] key = None
standing (e ∷ entries) key = if bytes_eq e.key key then (if e.stands then Some e.value else None) else standing entries key

-- the current map, and the entries of the one that is to be stored
pub record Aim : Type 0 where
  pub before : List Item
  pub entries : List Entry

abbrev pub aimed : Aim → List Item
aimed aim = items_in aim.entries
