-- An opening after a run finds the contents after a prefix of the executed units.
use Rattle.std.proofs.Common.{◌≡◌, ◌⊎◌, inl, inr, ℕ, List, Result}
use Rattle.std.proofs.lemmas.Result.{IfOk-weaker}
use Rattle.std.specs.Prelude.{IfOk}
use Rattle.psu_disk.specs.Disk.{DiskState, IsCrashImage}
use Rattle.psu_disk.specs.Ranges.{reads_left}
use Rattle.psu_pages.specs.declared.faults.ImageError.{ImageError}
use Rattle.psu_map.specs.Map.{Item}
use Rattle.psu_items.proofs.Standing.{represents_one}
use Rattle.psu_items.specs.Image.{EachRepresents, Represents}
use Rattle.psu_items.specs.Standing.{MapOn}
use Rattle.psu_run.specs.Ends.{IsAlong}
use Rattle.psu_run.specs.Points.{RunPoint}
use Rattle.psu_run.specs.Results.{IsAsBefore, IsOfRun}
use Rattle.psu_durability.specs.Found.{Finds, IsOfDisk, IsOfPrefixAlong}

-- what the bytes represent that an opening reads is what the disk represented before
of_disk : (disk : DiskState) (image : List ℕ) (limit : ℕ) (map : List Item) → IsAsBefore disk image → Represents image limit map → IsOfDisk disk limit map
of_disk disk image limit map (before, is, keeps) read = (before, is, λ old found represents. represents_one limit old map found image read (keeps old found represents))

-- or it is a prefix
of_prefix : (p : RunPoint) (image : List ℕ) (limit : ℕ) (map : List Item) → IsAlong p image → Represents image limit map → IsOfPrefixAlong p limit map
of_prefix p image limit map (i, w, lt, at, (k, prefix, kept, stands)) read = let same = represents_one limit w.limit map _ image read stands in (i, w, lt, at, (k, prefix, same.0, same.1))

of_run : (disk : DiskState) (p : RunPoint) (image : List ℕ) (limit : ℕ) (map : List Item) → IsOfRun disk p image → Represents image limit map → IsOfDisk disk limit map ⊎ IsOfPrefixAlong p limit map
of_run disk p image limit map (inl before) read = inl (of_disk disk image limit map before read)
of_run disk p image limit map (inr along) read = inr (of_prefix p image limit map along read)

module _ {D : Type 0} (opened : DiskState) (found : Result (MapOn D) (ImageError D)) (read : IfOk found (λ store. Represents opened.bytes store.limit store.items)) where
  pub finds_of_run : (possible : List ℕ → Type 0) (disk : DiskState) (last : RunPoint) → ((image : List ℕ) → possible image → IsOfRun disk last image) → Finds possible opened found (λ limit map. IsOfDisk disk limit map ⊎ IsOfPrefixAlong last limit map)
  finds_of_run possible disk last each left = IfOk-weaker found _ _ (λ store represents. of_run disk last opened.bytes store.limit store.items (each opened.bytes (left opened.bytes (reads_left opened))) represents) read

  pub finds_old : (possible : List ℕ → Type 0) (disk : DiskState) → ((image : List ℕ) → possible image → IsAsBefore disk image) → Finds possible opened found (IsOfDisk disk)
  finds_old possible disk each left = IfOk-weaker found _ _ (λ store represents. of_disk disk opened.bytes store.limit store.items (each opened.bytes (left opened.bytes (reads_left opened))) represents) read

  pub finds_all : (disk : DiskState) (limit : ℕ) (map : List Item) → EachRepresents disk limit map → Finds (IsCrashImage disk) opened found (λ l m. (l ≡ limit) × (m ≡ map))
  finds_all disk limit map each left = IfOk-weaker found _ _ (λ store represents. represents_one store.limit limit store.items map opened.bytes represents (each opened.bytes (left opened.bytes (reads_left opened)))) read
