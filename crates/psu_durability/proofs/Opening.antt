-- What an opening finds is what the bytes represent that it read, and these are an image that was possible before.
use Rattle.std.proofs.Common.{◌≡◌, ◌⊎◌, inl, inr, ℕ, List}
use Rattle.psu_disk.specs.declared.disk.Disk.{Ghosts}
use Rattle.psu_map.specs.Map.{Item}
use Rattle.psu_items.specs.Image.{IsEither, Represents}
use Rattle.psu_items.specs.Outcome.{IfStored}
use Rattle.psu_items.specs.Standing.{MapOn}
use Rattle.psu_items.specs.declared.commit.Commit.{Commit}
use Rattle.psu_items.specs.declared.commit.Commit.TheVariants as commit
use Rattle.psu_items.proofs.Standing.{represents_one}

pub found_either : (limit found : ℕ) (before target items : List Item) (image : List ℕ) → IsEither limit before target image → Represents image found items → (found ≡ limit) × ((items ≡ before) ⊎ (items ≡ target))
found_either limit found before target items image (inl is) read = let same = represents_one found limit items before image read is in (same.0, inl same.1)
found_either limit found before target items image (inr is) read = let same = represents_one found limit items target image read is in (same.0, inr same.1)

pub if_stored : {D A : Type 0} {G : Ghosts D} (ended : Commit D A G) (P Q : MapOn D → Type 0) → ((store : MapOn D) → P store → Q store) → IfStored ended P → IfStored ended Q
if_stored (commit.Stored store) P Q weaker is = weaker store is
if_stored (commit.Unstarted store batch cause) P Q weaker is = tt
if_stored (commit.Broken broken) P Q weaker is = tt
