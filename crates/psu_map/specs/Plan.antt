-- A map, and edits that are still to be made to it.
use Rattle.std.specs.Prelude.{List}
use Rattle.psu_map.specs.Map.{Item}
use Rattle.psu_map.specs.Batch.{Edit}

-- the map before the edits, and the edits planned for it
pub record Planned : Type 0 where
  pub map : List Item
  pub edits : List Edit
