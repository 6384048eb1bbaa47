-- What opening an image finds, and why an image is refused.
use Rattle.std.specs.Prelude.{◌≡◌, ◌≢◌, ℕ, ◌+◌, ◌*◌, ◌<◌, ◌≤◌, ◌==◌, ◌⊎◌, List, length, Bool, true, false, if◌then◌else◌, Option, Some, None, IfSome, is_some, ⊤}
use Rattle.std.specs.List.{AllByRecursion}
use Rattle.psu_disk.specs.Disk.{Range}
use Rattle.psu_pages.specs.Image.{other, gate_at, gate, current_root, mark, mark_in, version_in, limit_in, number_in, count_in, IsCurrent, Head, IsHead, IsKnown, IsInPool, IsNone, AreApart, pages_of, taken}
use Rattle.psu_pages.specs.Free.{is_free, AreClaimed}
use Rattle.psu_pages.specs.Shown.{Item, Represents}
use Rattle.psu_pages.specs.declared.root.Root.{Root}
use Rattle.psu_pages.specs.declared.words.Words.{Words}
use Rattle.psu_pages.specs.declared.choose.Roots.{Roots}
use Rattle.psu_pages.specs.declared.choose.Chosen.{Chosen}
use Rattle.psu_pages.specs.declared.root.Root.TheVariants.{First, Second}
use Rattle.psu_pages.specs.declared.faults.OpenCause.{OpenCause}
use Rattle.psu_pages.specs.declared.faults.OpenCause.TheVariants.{Device, Image, Memory}
use Rattle.psu_pages.specs.declared.faults.BadImage.{BadImage}
use Rattle.psu_pages.specs.declared.faults.BadImage.TheVariants.{NoRoot, BadRoot, BadVersion}

-- the number of a root whose gate is open
abbrev pub open_number : Root → List ℕ → Option ℕ
open_number root image = if gate root image == 165 then Some (number_in root image) else None

abbrev pub of_root : Root → Option ℕ → Option ℕ → Option ℕ
of_root First first second = first
of_root Second first second = second

-- a root is the current one, by the numbers of the roots with an open gate
pub record IsPicked (first second : Option ℕ) (root : Root) (number : ℕ) (both : Bool) : Type 0 where
  pub own : of_root root first second ≡ Some number
  pub lower : IfSome (of_root (other root) first second) (λ n. n < number)
  pub both_open : both ≡ is_some (of_root (other root) first second)

-- a root is the current one of an image and has this number; `both` says whether the other gate is open too
abbrev pub IsPickedIn : List ℕ → Root → ℕ → Bool → Type 0
IsPickedIn image root number both = IsPicked (open_number First image) (open_number Second image) root number both

-- why no root is picked: no gate is open, or both are open and have the same number
abbrev pub IsNonePicked : Option ℕ → Option ℕ → BadImage → Type 0
IsNonePicked first second NoRoot = (first ≡ None) × (second ≡ None)
IsNonePicked first second BadRoot = (number : ℕ) × (first ≡ Some number) × (second ≡ Some number)
IsNonePicked first second BadVersion = ⊥

-- A root's fields are valid: it is of this format, of a supported version, on a disk that is large enough. Its heads
-- are checked elsewhere.
pub record HasGoodWords (root : Root) (image : List ℕ) : Type 0 where
  pub marked : mark_in root image ≡ mark
  pub version : IsKnown (version_in root image)
  pub limit_least : 4 ≤ limit_in root image
  pub limit_most : limit_in root image ≤ 480
  pub room : 512 * (2 + 2 * limit_in root image) ≤ length image
  pub count : count_in root image ≤ 240

-- the fields of a root of this format, of a supported version, on a disk of this size
pub record IsSound (words : Words) (size : ℕ) : Type 0 where
  pub marked : words.mark ≡ mark
  pub version : IsKnown words.version
  pub limit_least : 4 ≤ words.limit
  pub limit_most : words.limit ≤ 480
  pub room : 512 * (2 + 2 * words.limit) ≤ size
  pub count : words.count ≤ 240

-- why fields are not sound
abbrev pub IsUnsound : Words → ℕ → BadImage → Type 0
IsUnsound words size NoRoot = ⊥
IsUnsound words size BadRoot = (words.mark ≡ mark → IsKnown words.version) × (IsSound words size → ⊥)
IsUnsound words size BadVersion = (words.mark ≡ mark) × (IsKnown words.version → ⊥)

-- a root's page
abbrev pub page_of : Root → List ℕ → List ℕ
page_of root image = Range (gate_at root) 512 image

-- these are the pages of an image's roots
pub record AreRoots (roots : Roots) (image : List ℕ) : Type 0 where
  pub size : 1024 ≤ length image
  pub first : roots.first ≡ page_of First image
  pub second : roots.second ≡ page_of Second image

-- the current root, and its contents
pub record IsChosen (image : List ℕ) (chosen : Chosen) : Type 0 where
  pub picked : IsPickedIn image chosen.root chosen.number chosen.both
  pub words : HasGoodWords chosen.root image
  pub version : version_in chosen.root image ≡ chosen.version
  pub limit : limit_in chosen.root image ≡ chosen.limit
  pub count : count_in chosen.root image ≡ chosen.count

-- There is a current root, and its fields are valid. Up to here no memory is allocated; its heads are read next.
pub record HasReadableRoot (image : List ℕ) : Type 0 where
  pub current : IsCurrent (current_root image) image
  pub words : HasGoodWords (current_root image) image

-- a head is valid, and its pages are distinct and all free
pub record IsFit (free : List Bool) (head : Head) : Type 0 where
  pub is_head : IsHead head
  pub were_free : AllByRecursion (λ (page : ℕ). is_free free page ≡ true) (pages_of head)
  pub apart : AreApart (pages_of head)

-- heads that one image may have together: each valid, with pages of its own, within the pool
pub record CanStand (limit : ℕ) (heads : List Head) : Type 0 where
  pub each : AllByRecursion IsHead heads
  pub pool : AllByRecursion (IsInPool limit) (taken heads)
  pub apart : AreApart (taken heads)

-- such heads, and of the pool's pages theirs are claimed, and no others
pub record AreFit (limit : ℕ) (heads : List Head) (free : List Bool) : Type 0 where
  pub can_stand : CanStand limit heads
  pub sized : length free ≡ 2 + 2 * limit
  pub first : is_free free 0 ≡ false
  pub second : is_free free 1 ≡ false
  pub claimed : AreClaimed free (taken heads)
  pub rest : (page : ℕ) → IsInPool limit page → IsNone (taken heads) page → is_free free page ≡ true

-- the gate of the root that isn't current is closed, or it is open and that root has a lower number
pub record HasGates (root : Root) (number : ℕ) (both : Bool) (image : List ℕ) : Type 0 where
  pub shut : both ≡ false → gate (other root) image ≢ 165
  pub lower : both ≡ true → number_in (other root) image < number

-- the image is too short for two roots, or no gate is open
abbrev pub HasNoRoot : List ℕ → Type 0
HasNoRoot image = (length image < 1024) ⊎ ((gate First image ≢ 165) × (gate Second image ≢ 165))

-- the current root is of this format, but of a version that isn't supported
pub record HasOtherVersion (image : List ℕ) : Type 0 where
  pub size : 1024 ≤ length image
  pub current : IsCurrent (current_root image) image
  pub marked : mark_in (current_root image) image ≡ mark
  pub version : IsKnown (version_in (current_root image) image) → ⊥

-- there are two roots with an open gate, and the image represents no items for another reason than its version
pub record HasBadRoot (image : List ℕ) : Type 0 where
  pub some_root : HasNoRoot image → ⊥
  pub same_version : HasOtherVersion image → ⊥
  pub represents_none : (limit : ℕ) (items : List Item) → Represents image limit items → ⊥

-- why an image is refused for its contents
abbrev pub IsRefusal : List ℕ → BadImage → Type 0
IsRefusal image NoRoot = HasNoRoot image
IsRefusal image BadRoot = HasBadRoot image
IsRefusal image BadVersion = HasOtherVersion image

-- P of what is wrong with the image, if that is the cause; a failed disk call and a failed allocation say nothing about
-- the image
abbrev pub IfImage : OpenCause → (BadImage → Type 0) → Type 0
IfImage Device P = ⊤
IfImage (Image bad) P = P bad
IfImage Memory P = ⊤
