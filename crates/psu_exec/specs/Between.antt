-- Two lists of items that differ only between a common prefix and a common suffix.
use Rattle.std.specs.Prelude.{◌≡◌, ◌++◌, List}
use Rattle.psu_map.specs.Map.{Item}

-- apart from these items, the lists have the same prefix and the same suffix
pub record AreBetween (one other : List Item) (gone come : List Item) : Type 0 where
  pub front : List Item
  pub back : List Item
  pub one_is : one ≡ front ++ (gone ++ back)
  pub other_is : other ≡ front ++ (come ++ back)
