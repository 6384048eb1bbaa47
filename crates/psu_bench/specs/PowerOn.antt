-- The power-on of a served device.
use Rattle.std.specs.Prelude.{ℕ, List}
use Rattle.psu_turn.specs.Seats.{Sight, Begins}
use Rattle.psu_nv.specs.Contents.{Contents, IsContents, items_of}
use Rattle.psu_items.specs.Image.{Represents}
use Rattle.psu_exec.specs.Device.{State, power_on}
use Rattle.psu_exec.specs.Calls.{Entry}

-- The history of the device begins at power-on with the contents that the image represents: no session, no lock, and no
-- call yet.
pub record BeginsWith (image : List ℕ) (sight : Sight State Entry) : Type 0 where
  pub contents : Contents
  pub limit : ℕ
  pub found : Represents image limit (items_of contents)
  pub sound : IsContents contents
  pub begins : Begins sight.turn (power_on limit contents) sight
