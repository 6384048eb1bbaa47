-- The map that the bytes of an image represent, of version 1 or 2: the items that the current root shows.
use Rattle.std.specs.Prelude.{◌≡◌, ℕ, ◌+◌, ◌⊎◌, List, map}
use Rattle.psu_disk.specs.Disk.{DiskState, IsCrashImage}
use Rattle.psu_map.specs.Map.{Item, item_of, IsSorted}
use Rattle.psu_map.specs.Capacity.{IsMapOf}
use Rattle.psu_pages.specs.declared.faults.BadImage.{BadImage}
use Rattle.psu_pages.specs.declared.faults.BadImage.TheVariants.{NoRoot, BadRoot, BadVersion}
use Rattle.psu_pages.specs.declared.root.Root.{Root}
use Rattle.psu_pages.specs.Image as pages
use Rattle.psu_pages.specs.Shown as shown
use Rattle.psu_pages.specs.Finding as finding

-- an item that a root shows, as an item of a map
abbrev pub as_item : shown.Item → Item
as_item i = item_of i.key i.value

-- the items of heads, in their order
abbrev pub listed : List ℕ → List pages.Head → List Item
listed image heads = map as_item (map (shown.item_in image) heads)

-- the items that a root shows
abbrev pub shown_in : Root → List ℕ → List Item
shown_in root image = map as_item (shown.items_in root image)

-- the current root, its number and its version
abbrev pub current_root : List ℕ → Root
current_root = pages.current_root

abbrev pub number_in : Root → List ℕ → ℕ
number_in = pages.number_in

abbrev pub version_in : Root → List ℕ → ℕ
version_in = pages.version_in

-- A root shows the items of a map, in any order. Its gate may be open or closed.
pub record RootHolds (root : Root) (image : List ℕ) (limit : ℕ) (map : List Item) : Type 0 where
  pub shows : shown.Shows root image limit
  pub items : IsMapOf map (shown_in root image)
  pub sorted : IsSorted map

-- There is a current root, and its fields are valid. Nothing is allocated up to here; its heads are read next.
abbrev pub HasReadableRoot : List ℕ → Type 0
HasReadableRoot = finding.HasReadableRoot

-- there are no two roots, or no gate is open
abbrev pub HasNoRoot : List ℕ → Type 0
HasNoRoot = finding.HasNoRoot

-- the current root has the mark of this format, but a version that is not supported
abbrev pub HasOtherVersion : List ℕ → Type 0
HasOtherVersion = finding.HasOtherVersion

-- The current root holds the map: the image represents the map.
pub record Represents (image : List ℕ) (limit : ℕ) (map : List Item) : Type 0 where
  pub current : pages.IsCurrent (current_root image) image
  pub holds : RootHolds (current_root image) image limit map

-- each possible crash image represents the map
abbrev pub EachRepresents : DiskState → ℕ → List Item → Type 0
EachRepresents disk limit map = (image : List ℕ) → IsCrashImage disk image → Represents image limit map

-- the image represents one of two maps
abbrev pub IsEither : ℕ → List Item → List Item → List ℕ → Type 0
IsEither limit before target image = Represents image limit before ⊎ Represents image limit target

-- each possible crash image represents one of two maps
abbrev pub EachIsEither : DiskState → ℕ → List Item → List Item → Type 0
EachIsEither disk limit before target = (image : List ℕ) → IsCrashImage disk image → IsEither limit before target image

-- The current root holds the map, and has this version and this number.
pub record RepresentsAs (version number : ℕ) (image : List ℕ) (limit : ℕ) (map : List Item) : Type 0 where
  pub represents : Represents image limit map
  pub version_is : version_in (current_root image) image ≡ version
  pub number_is : number_in (current_root image) image ≡ number

-- a possible crash image of a commit: it represents the map before, under the version and the number that it had, or
-- the target, as version 2 and under the next number
abbrev pub IsEitherRoot : ℕ → ℕ → ℕ → List Item → List Item → List ℕ → Type 0
IsEitherRoot version number limit before target image = RepresentsAs version number image limit before ⊎ RepresentsAs 2 (number + 1) image limit target

-- there are two roots, at least one with an open gate, and the image represents no map; the cause is not an unsupported
-- version
pub record HasBadRoot (image : List ℕ) : Type 0 where
  pub some_root : HasNoRoot image → ⊥
  pub same_version : HasOtherVersion image → ⊥
  pub represents_none : (limit : ℕ) (map : List Item) → Represents image limit map → ⊥

-- why an image is refused for its contents
abbrev pub IsRefusal : List ℕ → BadImage → Type 0
IsRefusal image NoRoot = HasNoRoot image
IsRefusal image BadRoot = HasBadRoot image
IsRefusal image BadVersion = HasOtherVersion image
