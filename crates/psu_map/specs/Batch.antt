-- A batch as the list of its edits, and its effect on a map.
use Rattle.std.specs.Prelude.{◌≡◌, ℕ, List, [], ◌∷◌, Option, Some, None, if◌then◌else◌}
use Rattle.std.specs.List.{AllByRecursion}
use Rattle.std.specs.Str.{bytes_eq}
use Rattle.psu_map.specs.Map.{Item, get, put, without}

-- a key, with the value that it is assigned, or with none if its item is removed
pub record Edit : Type 0 where
  pub key : List ℕ
  pub value : Option (List ℕ)

-- the map with this value at the key, or without the key
abbrev pub edited : List Item → List ℕ → Option (List ℕ) → List Item
edited items key None = without items key
edited items key (Some value) = put items key value

-- the map after the edits, made in their order
abbrev pub changed : List Item → List Edit → List Item
changed items [] = items
changed items (e ∷ edits) = changed (edited items e.key e.value) edits

-- what a key has after the edits, if it had this before: the last edit of the key decides
abbrev pub assigned : List Edit → List ℕ → Option (List ℕ) → Option (List ℕ)
assigned [] key had = had
assigned (e ∷ edits) key had = assigned edits key (if bytes_eq e.key key then e.value else had)

-- new has at each key what the edits assign
abbrev pub Assigns : List Item → List Edit → List Item → Type 0
Assigns old edits new = (k : List ℕ) → get new k ≡ assigned edits k (get old k)

-- no edit assigns another value than this to the key, and none removes it
abbrev pub KeepsValue : List Edit → List ℕ → List ℕ → Type 0
KeepsValue edits key value = AllByRecursion (λ (e : Edit). e.key ≡ key → e.value ≡ Some value) edits
