-- What an image can hold, and what makes a list of items those of a map. (The format is this project's own: image
-- version 2.)
use Rattle.std.specs.Prelude.{◌≡◌, ℕ, ◌≤◌, List, length}
use Rattle.std.specs.List.{AllByRecursion}
use Rattle.psu_map.specs.Map.{Item, get, cost}

-- what holds for each item of an image
pub record Fits (i : Item) : Type 0 where
  pub key : 1 ≤ length i.key
  pub key_most : length i.key ≤ 65
  pub value : 1 ≤ length i.value
  pub value_most : length i.value ≤ 33280

-- the map has at each key what the items have
abbrev pub IsMapOf : List Item → List Item → Type 0
IsMapOf map items = (k : List ℕ) → get map k ≡ get items k

-- What an image of this limit can hold: items of lengths that a head can encode, and no more pages than the limit.
-- (Each item takes at least two pages, so at most 240 items fit under the greatest limit of 480.)
pub record CanHold (limit : ℕ) (map : List Item) : Type 0 where
  pub fits : AllByRecursion Fits map
  pub cost : cost map ≤ limit
