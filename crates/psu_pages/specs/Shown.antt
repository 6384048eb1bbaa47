-- The items that a root shows, whatever its gate, and those that an image represents.
use Rattle.std.specs.Prelude.{◌≡◌, ◌≢◌, ℕ, ◌+◌, ◌*◌, ◌<◌, ◌≤◌, ◌⊎◌, List, length, map}
use Rattle.std.specs.List.{AllByRecursion}
use Rattle.psu_disk.specs.Disk.{DiskState, IsCrashImage}
use Rattle.psu_pages.specs.declared.root.Root.{Root}
use Rattle.psu_pages.specs.Image.{other, gate, mark, mark_in, version_in, limit_in, number_in, count_in, current_root, IsCurrent, Head, heads_in, value_in, IsHead, IsKnown, AreShort, taken, keys, IsInPool, AreApart}

-- a key and its value
pub record Item : Type 0 where
  pub key : List ℕ
  pub value : List ℕ

abbrev pub item_of : List ℕ → List ℕ → Item
item_of key value = record { key = key; value = value }

-- the item of a head
abbrev pub item_in : List ℕ → Head → Item
item_in image head = item_of head.key (value_in image head)

-- the items of a root, in the order in which it names them
abbrev pub items_in : Root → List ℕ → List Item
items_in root image = map (item_in image) (heads_in root image)

-- A root shows its items, whatever the gate: it is of this format, of a supported version and of this limit, on a disk
-- that is large enough; no page of its items lies outside the pool or is named twice, and no key occurs twice or is too
-- long for the version. Other bytes may be any.
pub record Shows (root : Root) (image : List ℕ) (limit : ℕ) : Type 0 where
  pub marked : mark_in root image ≡ mark
  pub version : IsKnown (version_in root image)
  pub limit_is : limit_in root image ≡ limit
  pub limit_least : 4 ≤ limit
  pub limit_most : limit ≤ 480
  pub room : 512 * (2 + 2 * limit) ≤ length image
  pub count : count_in root image ≤ 240
  pub heads : AllByRecursion IsHead (heads_in root image)
  pub short : AreShort (version_in root image) (heads_in root image)
  pub pool : AllByRecursion (IsInPool limit) (taken (heads_in root image))
  pub apart : AreApart (taken (heads_in root image))
  pub cost : length (taken (heads_in root image)) ≤ limit
  pub distinct : AreApart (keys (heads_in root image))

-- A root has this version and this number, names these heads and shows these items, whatever its gate.
pub record HasContents (root : Root) (version limit number : ℕ) (heads : List Head) (items : List Item) (image : List ℕ) : Type 0 where
  pub version_is : version_in root image ≡ version
  pub number_is : number_in root image ≡ number
  pub shows : Shows root image limit
  pub heads_are : heads_in root image ≡ heads
  pub items_are : items_in root image ≡ items

-- This root is the current one, and encodes this version, limit, number, heads and items.
pub record Encodes (root : Root) (version limit number : ℕ) (heads : List Head) (items : List Item) (image : List ℕ) : Type 0 where
  pub current : IsCurrent root image
  pub has_contents : HasContents root version limit number heads items image

-- The image represents these items: its current root shows them.
pub record Represents (image : List ℕ) (limit : ℕ) (items : List Item) : Type 0 where
  pub current : IsCurrent (current_root image) image
  pub shows : Shows (current_root image) image limit
  pub items_are : items_in (current_root image) image ≡ items

-- the image represents one of two lists of items
abbrev pub IsEither : ℕ → List Item → List Item → List ℕ → Type 0
IsEither limit before target image = Represents image limit before ⊎ Represents image limit target

-- in each possible crash image this root is the current one, and encodes this version, limit, number, heads and items
abbrev pub EachEncodes : DiskState → Root → ℕ → ℕ → ℕ → List Head → List Item → Type 0
EachEncodes disk root version limit number heads items = (image : List ℕ) → IsCrashImage disk image → Encodes root version limit number heads items image

-- in each possible crash image this root's gate is closed
abbrev pub EachShut : DiskState → Root → Type 0
EachShut disk root = (image : List ℕ) → IsCrashImage disk image → gate root image ≢ 165

-- in each possible crash image this root has a lower number than that
abbrev pub EachLower : DiskState → Root → ℕ → Type 0
EachLower disk root number = (image : List ℕ) → IsCrashImage disk image → number_in root image < number

-- the current root is the previous one and encodes what it did, whatever its version, or it is the next one, of version
-- 2 and with the next number
abbrev pub EncodesEither : Root → ℕ → ℕ → ℕ → List Head → List Item → List Head → List Item → List ℕ → Type 0
EncodesEither next version limit number before items heads target image = Encodes (other next) version limit number before items image ⊎ Encodes next 2 limit (number + 1) heads target image
