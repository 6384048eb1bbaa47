-- A store as its callers see it, and what its pages hold.
use Rattle.std.specs.Prelude.{◌≡◌, ℕ, List, true}
use Rattle.psu_disk.specs.Disk.{DiskState, IsCrashImage}
use Rattle.psu_disk.specs.declared.disk.Disk.{Ghosts}
use Rattle.psu_map.specs.Map.{Item, IsSorted}
use Rattle.psu_map.specs.Capacity.{IsMapOf}
use Rattle.psu_pages.specs.Free.{is_free}
use Rattle.psu_pages.specs.Image.{Head, IsInPool, IsNone, taken}
use Rattle.psu_pages.specs.declared.pages.Pages.{Pages}
use Rattle.psu_pages.specs.declared.standing.Standing.TheVariants.{One}
use Rattle.psu_items.specs.Image.{EachRepresents, current_root, number_in, version_in, shown_in}

-- a map on a disk: how many pages it may take, and the version and the number of the current root
pub record MapOn (D : Type 0) : Type 0 where
  pub disk : D
  pub limit : ℕ
  pub version : ℕ
  pub number : ℕ
  pub items : List Item

-- each possible crash image of the store's disk represents its map, under its version and its number
pub record IsOnDisk {D : Type 0} (state : D → DiskState) (store : MapOn D) : Type 0 where
  pub represents : EachRepresents (state store.disk) store.limit store.items
  pub numbered : (image : List ℕ) → IsCrashImage (state store.disk) image → number_in (current_root image) image ≡ store.number
  pub versioned : (image : List ℕ) → IsCrashImage (state store.disk) image → version_in (current_root image) image ≡ store.version

-- the store that callers see, of a map on pages
abbrev pub on_pages : {D A : Type 0} {G : Ghosts D} → Pages D A G → List Item → MapOn D
on_pages pages map = record { disk = pages.disk; limit = pages.limit; version = pages.version; number = pages.number; items = map }

-- all pages of the pool are free but those of these heads
abbrev pub IsSpare : {D A : Type 0} {G : Ghosts D} → Pages D A G → List Head → Type 0
IsSpare pages heads = (page : ℕ) → IsInPool pages.limit page → IsNone (taken heads) page → is_free pages.free page ≡ true

-- all pages of the pool are free but these and those of the heads
abbrev pub AreSpare : {D A : Type 0} {G : Ghosts D} → Pages D A G → List ℕ → List ℕ → Type 0
AreSpare pages heads others = (page : ℕ) → IsInPool pages.limit page → IsNone heads page → IsNone others page → is_free pages.free page ≡ true

-- the pages show the items of the map, and the gate of the older root is closed
pub record ShowsMap {D A : Type 0} {G : Ghosts D} (pages : Pages D A G) (map : List Item) : Type 0 where
  pub one : pages.standing ≡ One
  pub sorted : IsSorted map
  pub holds : Ghosts.honest G → IsMapOf map (shown_in pages.root (Ghosts.state G pages.disk).bytes)

-- the pages show the map, no page of the pool is claimed but those of their heads, and the disk has confirmed that what was
-- written is found again
pub record KeepsMap {D A : Type 0} {G : Ghosts D} (pages : Pages D A G) (map : List Item) : Type 0 where
  pub shows : ShowsMap pages map
  pub spare : IsSpare pages pages.heads.items
  pub confirmed : Ghosts.confirmed G pages.disk
