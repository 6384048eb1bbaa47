-- The parts of contents, each the value of a key of the map.
use Rattle.std.specs.Prelude.{◌≡◌, ◌⊎◌, ℕ, Option, Some, None, List, [], ◌∷◌}
use Rattle.psu_map.specs.Map.{Item, item_of, get}
use Rattle.psu_map.specs.Batch.{Edit}
use Rattle.psu_nv.specs.Contents.{Contents, enables_items, register_items, user_items, macros_items, recall_items}
use Rattle.psu_nv.specs.Commands.{settings_at}

-- what the map has at one key
pub data Part : Type 0 where
  Enables : Part
  Register : (number : ℕ) → Part
  User : Part
  Macros : Part
  File : (name : List ℕ) → Part
  Recall : Part

abbrev pub key_of : Part → List ℕ
key_of Enables = 1 ∷ []
key_of (Register number) = 2 ∷ number ∷ []
key_of User = 3 ∷ []
key_of Macros = 4 ∷ []
key_of (File name) = 5 ∷ name
key_of Recall = 6 ∷ []

-- the item of a file's name, by the value that it has
abbrev pub file_items : List ℕ → Option (List ℕ) → List Item
file_items name None = []
file_items name (Some value) = item_of (5 ∷ name) value ∷ []

-- the item of a part; empty where the part is absent
abbrev pub part_items : Contents → Part → List Item
part_items c Enables = enables_items c.enables
part_items c (Register number) = register_items number (settings_at c.registers number)
part_items c User = user_items c.user
part_items c Macros = macros_items c.macros
part_items c (File name) = file_items name (get c.files name)
part_items c Recall = recall_items c.recall

-- the value of the item, where there is one
abbrev pub value_in : List Item → Option (List ℕ)
value_in [] = None
value_in (i ∷ items) = Some i.value

-- the edit that gives a map what contents have of a part
abbrev pub edit_of : Contents → Part → Edit
edit_of c part = record { key = key_of part; value = value_in (part_items c part) }

-- a part is one of these
abbrev pub IsAmong : Part → List Part → Type 0
IsAmong part [] = ⊥
IsAmong part (p ∷ parts) = (part ≡ p) ⊎ IsAmong part parts

-- the contents differ in these parts at most
abbrev pub DifferIn : List Part → Contents → Contents → Type 0
DifferIn parts old new = (part : Part) → IsAmong part parts ⊎ (value_in (part_items old part) ≡ value_in (part_items new part))
