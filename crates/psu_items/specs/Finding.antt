-- The images that are possible after an opening, and why one is refused.
use Rattle.std.specs.Prelude.{◌≡◌, ℕ, ◌⊎◌, List}
use Rattle.psu_disk.specs.Disk.{DiskState, IsCrashImage, SameBut}
use Rattle.psu_map.specs.Map.{Item}
use Rattle.psu_pages.specs.declared.faults.OpenCause.{OpenCause}
use Rattle.psu_pages.specs.declared.faults.OpenCause.TheVariants.{Device, Memory}
use Rattle.psu_pages.specs.declared.faults.PageFault.{PageFault}
use Rattle.psu_pages.specs.declared.faults.PageFault.TheVariants as unread
use Rattle.psu_pages.specs.declared.root.Root.{Root}
use Rattle.psu_pages.specs.Image.{other, gate_at, IsCurrent}
use Rattle.psu_items.specs.Image.{current_root, number_in, RootHolds}

-- the root that is current in y is current in x, with the same number and, where it holds a map there, with that map;
-- of all bytes only the gate of the other root may differ
pub record SameRoots (y x : List ℕ) : Type 0 where
  pub current : (root : Root) → IsCurrent root y → IsCurrent root x
  pub numbers : (root : Root) → IsCurrent root y → number_in root x ≡ number_in root y
  pub holds : (root : Root) → IsCurrent root y → (limit : ℕ) (map : List Item) → RootHolds root y limit map → RootHolds root x limit map
  pub but : SameBut (gate_at (other (current_root y))) 1 y x

-- an image is one from before, or the root that was current when it was read is current in it
abbrev pub IsOldOrSame : DiskState → List ℕ → Type 0
IsOldOrSame old image = IsCrashImage old image ⊎ SameRoots old.bytes image

-- why a disk is not opened, by why its pages are not read; reading claims no pages
abbrev pub IsUnread : PageFault → OpenCause → Type 0
IsUnread unread.NoPage cause = ⊥
IsUnread unread.Device cause = cause ≡ Device
IsUnread unread.Memory cause = cause ≡ Memory
