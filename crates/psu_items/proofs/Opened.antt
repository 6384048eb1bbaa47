-- The store that an opening returns.
use Rattle.std.proofs.Common.{◌≡◌, ℕ, List, Result, Ok, Err, IfOk, sym, ◌∙◌, subst}
use Rattle.psu_disk.specs.Disk.{DiskState}
use Rattle.psu_disk.specs.Ranges.{reads_left}
use Rattle.psu_disk.specs.declared.disk.Disk.{Ghosts}
use Rattle.psu_map.specs.Map.{Item, IsSorted}
use Rattle.psu_map.specs.Capacity.{IsMapOf}
use Rattle.psu_pages.specs.declared.faults.ImageError.{ImageError}
use Rattle.psu_pages.specs.declared.pages.Pages.{Pages}
use Rattle.psu_pages.specs.Shown.{items_in, Encodes}
use Rattle.psu_items.specs.Image.{listed, current_root, number_in, version_in, Represents, EachRepresents}
use Rattle.psu_items.specs.Standing.{MapOn}
use Rattle.psu_items.proofs.Standing.{represents_one}
use Rattle.psu_items.proofs.Opening.{represented, numbered, versioned}

module _ {D A : Type 0} {G : Ghosts D} (pages : Pages D A G) (s : List ℕ) (encodes : Encodes pages.root pages.version pages.limit pages.number pages.heads.items (items_in pages.root s) s) where
  pub found_represented : (Ghosts.state G pages.disk).bytes ≡ s → (r : Result (MapOn D) (ImageError D)) → IfOk r (λ store. (store.limit ≡ pages.limit) × (store.version ≡ pages.version) × (store.number ≡ pages.number)) → IfOk r (λ store. IsSorted store.items)
      → IfOk r (λ store. IsMapOf store.items (listed (Ghosts.state G pages.disk).bytes pages.heads.items)) → IfOk r (λ store. Represents s store.limit store.items)
  found_represented seen (Ok store) words sorted found =
      subst (λ (n : ℕ). Represents s n store.items) (sym words.0)
      (represented pages.root pages.version pages.limit pages.number pages.heads.items s encodes store.items sorted (subst (λ (x : List ℕ). IsMapOf store.items (listed x pages.heads.items)) seen found))
  found_represented seen (Err e) words sorted found = tt

  pub found_number : (r : Result (MapOn D) (ImageError D)) → IfOk r (λ store. (store.limit ≡ pages.limit) × (store.version ≡ pages.version) × (store.number ≡ pages.number)) → IfOk r (λ store. store.number ≡ number_in (current_root s) s)
  found_number (Ok store) words = words.2 ∙ sym (numbered pages.root pages.version pages.limit pages.number pages.heads.items s encodes)
  found_number (Err e) words = tt

  pub found_version : (r : Result (MapOn D) (ImageError D)) → IfOk r (λ store. (store.limit ≡ pages.limit) × (store.version ≡ pages.version) × (store.number ≡ pages.number)) → IfOk r (λ store. store.version ≡ version_in (current_root s) s)
  found_version (Ok store) words = words.1 ∙ sym (versioned pages.root pages.version pages.limit pages.number pages.heads.items s encodes)
  found_version (Err e) words = tt

-- if each possible crash image represents one map, the map found is that one
pub found_one : {D : Type 0} (disk : DiskState) (limit : ℕ) (m : List Item) → EachRepresents disk limit m → (r : Result (MapOn D) (ImageError D)) → IfOk r (λ store. Represents disk.bytes store.limit store.items) → IfOk r (λ store. (store.limit ≡ limit) × (store.items ≡ m))
found_one disk limit m all (Ok store) represents = represents_one store.limit limit store.items m disk.bytes represents (all disk.bytes (reads_left disk))
found_one disk limit m all (Err e) represents = tt
