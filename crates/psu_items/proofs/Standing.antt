-- The map that pages encode is the map that their image represents.
use Rattle.std.proofs.Common.{◌≡◌, ◌≢◌, ℕ, List, map, sym, ◌∙◌, subst}
use Rattle.psu_disk.specs.Disk.{DiskState, IsCrashImage}
use Rattle.psu_disk.specs.declared.disk.Disk.{Ghosts}
use Rattle.psu_map.specs.Map.{Item, IsSorted}
use Rattle.psu_map.specs.Capacity.{IsMapOf}
use Rattle.psu_map.proofs.Maps.{same_map}
use Rattle.psu_pages.specs.declared.root.Root.{Root}
use Rattle.psu_pages.specs.declared.pages.Pages.{Pages}
use Rattle.psu_pages.specs.declared.standing.Standing.{Standing}
use Rattle.psu_pages.specs.declared.standing.Standing.TheVariants.{One, Unsure}
use Rattle.psu_pages.specs.Image.{Head, IsCurrent}
use Rattle.psu_pages.specs.Shown.{Shows, Encodes, EachEncodes, items_in}
use Rattle.psu_pages.specs.Shown as shown
use Rattle.psu_pages.proofs.Encoding.{encodes_number, encodes_version, current_root_is}
use Rattle.psu_items.specs.Image.{as_item, RootHolds, Represents, RepresentsAs, EachRepresents}
use Rattle.psu_items.specs.Standing.{IsOnDisk, MapOn, ShowsMap, on_pages}

-- an image represents the map that its current root holds
pub represents_at : (root : Root) (limit : ℕ) (m : List Item) (image : List ℕ) → IsCurrent root image → RootHolds root image limit m → Represents image limit m
represents_at root limit m image current holds =
    let is = sym (current_root_is root image current) in
    record { current = subst (λ (r : Root). IsCurrent r image) is current; holds = subst (λ (r : Root). RootHolds r image limit m) is holds }

-- an image that encodes these items under a root represents the map of these items
pub encodes_represents : (root : Root) (version limit number : ℕ) (heads : List Head) (items : List shown.Item) (m : List Item) (image : List ℕ) → IsSorted m → IsMapOf m (map as_item items) → Encodes root version limit number heads items image → Represents image limit m
encodes_represents root version limit number heads items m image sorted of encodes = represents_at root limit m image encodes.current (record {
  shows = encodes.has_contents.shows;
  items = subst (λ (is : List shown.Item). IsMapOf m (map as_item is)) (sym encodes.has_contents.items_are) of;
  sorted = sorted;
})

-- with the version and the number of the root
pub encodes_as : (root : Root) (version limit number : ℕ) (heads : List Head) (items : List shown.Item) (m : List Item) (image : List ℕ) → IsSorted m → IsMapOf m (map as_item items) → Encodes root version limit number heads items image → RepresentsAs version number image limit m
encodes_as root version limit number heads items m image sorted of encodes = record {
  represents = encodes_represents root version limit number heads items m image sorted of encodes;
  version_is = encodes_version root version limit number heads items image encodes;
  number_is = encodes_number root version limit number heads items image encodes;
}

pub each_represents : (disk : DiskState) (root : Root) (version limit number : ℕ) (heads : List Head) (items : List shown.Item) (m : List Item) → IsSorted m → IsMapOf m (map as_item items) → EachEncodes disk root version limit number heads items → EachRepresents disk limit m
each_represents disk root version limit number heads items m sorted of each image left = encodes_represents root version limit number heads items m image sorted of (each image left)

-- an image represents at most one map
pub represents_one : (limit limit' : ℕ) (m m' : List Item) (image : List ℕ) → Represents image limit m → Represents image limit' m' → (limit ≡ limit') × (m ≡ m')
represents_one limit limit' m m' image a b = (
  sym a.holds.shows.limit_is ∙ b.holds.shows.limit_is,
  same_map m m' a.holds.sorted b.holds.sorted (λ k. a.holds.items k ∙ sym (b.holds.items k)),
)

-- `One` is not `Unsure`
pub surely : (s : Standing) → s ≡ One → s ≢ Unsure
surely s one unsure = cc

-- each possible crash image of the disk represents the map that the pages show
module _ {D A : Type 0} {G : Ghosts D} (pages : Pages D A G) (m : List Item) (shows : ShowsMap pages m) where
  pub pages_represent : Ghosts.honest G → EachRepresents (Ghosts.state G pages.disk) pages.limit m
  pages_represent h = each_represents (Ghosts.state G pages.disk) pages.root pages.version pages.limit pages.number pages.heads.items _ m shows.sorted (shows.holds h) (pages.encodes h (surely pages.standing shows.one))

  pub seen_represent : (seen : MapOn D) → on_pages pages m ≡ seen → Ghosts.honest G → EachRepresents (Ghosts.state G seen.disk) seen.limit seen.items
  seen_represent seen is h = subst (λ (s : MapOn D). EachRepresents (Ghosts.state G s.disk) s.limit s.items) is (pages_represent h)

  pub pages_on_disk : Ghosts.honest G → IsOnDisk (Ghosts.state G) (on_pages pages m)
  pages_on_disk h = record {
    represents = pages_represent h;
    numbered = λ image left. encodes_number pages.root pages.version pages.limit pages.number pages.heads.items _ image (pages.encodes h (surely pages.standing shows.one) image left);
    versioned = λ image left. encodes_version pages.root pages.version pages.limit pages.number pages.heads.items _ image (pages.encodes h (surely pages.standing shows.one) image left);
  }

  pub pages_as : Ghosts.honest G → (image : List ℕ) → IsCrashImage (Ghosts.state G pages.disk) image → RepresentsAs pages.version pages.number image pages.limit m
  pages_as h image left = encodes_as pages.root pages.version pages.limit pages.number pages.heads.items _ m image shows.sorted (shows.holds h) (pages.encodes h (surely pages.standing shows.one) image left)
