-- Each possible crash image of an opening represents what one from before it represented.
use Rattle.std.proofs.Common.{inl, inr, ℕ, List}
use Rattle.psu_disk.specs.Disk.{DiskState, IsCrashImage}
use Rattle.psu_disk.specs.Ranges.{reads_left}
use Rattle.psu_map.specs.Map.{Item}
use Rattle.psu_items.specs.Finding.{IsOldOrSame}
use Rattle.psu_items.specs.Image.{Represents}
use Rattle.psu_items.proofs.Opening.{still_represents}
use Rattle.psu_power_loss.specs.World.{without_power}
use Rattle.psu_power_loss.proofs.Invariant.{only_left}

pub keeps_map : (old : DiskState) (image : List ℕ) → IsOldOrSame old image → (before : List ℕ) × IsCrashImage old before × ((limit : ℕ) (map : List Item) → Represents before limit map → Represents image limit map)
keeps_map old image (inl left) = (image, left, λ limit map stands. stands)
keeps_map old image (inr same) = (
  old.bytes,
  reads_left old,
  λ limit map stands. still_represents (without_power old.bytes) limit map (λ other is. rw (only_left old.bytes other is) stands) image (inr same),
)
