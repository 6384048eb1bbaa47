-- A run on a new image, in the words of the guide.
use Rattle.std.proofs.Common.{◌≡◌, ℕ, List, [], length, subst}
use Rattle.psu_disk.specs.Disk.{DiskState, IsCrashImage}
use Rattle.psu_items.specs.Image.{EachRepresents, current_root, number_in}
use Rattle.psu_map.specs.Map.{Item}
use Rattle.psu_guide.specs.Plays.{IsNew}

-- the disk of a store that was formatted
pub new_disk : (disk : DiskState) (limit number : ℕ) (map : List Item) → length disk.bytes ≡ 263168
    → EachRepresents disk limit map → limit ≡ 256 → map ≡ []
    → ((image : List ℕ) → IsCrashImage disk image → number_in (current_root image) image ≡ number) → number ≡ 1 → IsNew disk
new_disk disk limit number map size represents is_limit is_map numbered is_number = record {
  size = size;
  represents = subst (λ (n : ℕ). EachRepresents disk n []) is_limit (subst (λ (m : List Item). EachRepresents disk limit m) is_map represents);
  first = subst (λ (n : ℕ). (image : List ℕ) → IsCrashImage disk image → number_in (current_root image) image ≡ n) is_number numbered;
}
