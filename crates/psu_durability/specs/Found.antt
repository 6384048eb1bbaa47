-- What an opening finds of the units that were executed before.
use Rattle.std.specs.Prelude.{◌≡◌, ◌⊎◌, ℕ, List, ◌∷◌, Any, Option, Some, None, Result, IfOk}
use Rattle.psu_disk.specs.Disk.{DiskState, IsCrashImage}
use Rattle.psu_disk.specs.declared.disk.Disk.{Ghosts}
use Rattle.psu_pages.specs.declared.faults.ImageError.{ImageError}
use Rattle.psu_map.specs.Map.{Item}
use Rattle.psu_items.specs.Image.{Represents}
use Rattle.psu_items.specs.Standing.{MapOn}
use Rattle.psu_nv.specs.Contents.{items_of}
use Rattle.psu_power_loss.specs.Headline.{IsPrefix}
use Rattle.psu_power_loss.specs.World.{World, after}
use Rattle.psu_run.specs.Output.{Written}
use Rattle.psu_run.specs.Points.{RunPoint}
use Rattle.psu_run.specs.Results.{WritesTo}
use Rattle.psu_run.specs.declared.run_cause.RunCause.{RunCause}
use Rattle.psu_durability.specs.Premise.{KeepsModel}

-- This is the map of the contents after a prefix of the units executed up to this world, which contains every unit before an
-- answered `*OPC?`, under the limit of the image.
abbrev pub IsOfPrefix : World → ℕ → List Item → Type 0
IsOfPrefix w limit map = (k : ℕ) × IsPrefix w k × (limit ≡ w.limit) × (map ≡ items_of (after w k))

-- this is such a map for the units executed up to some point of a run, this one or one before it
abbrev pub IsOfPrefixAlong : RunPoint → ℕ → List Item → Type 0
IsOfPrefixAlong p limit map = Any (λ w. IsOfPrefix w limit map) (p.world ∷ p.passed)

-- this is the map that some possible crash image of the disk represented, if it represented one
abbrev pub IsOfDisk : DiskState → ℕ → List Item → Type 0
IsOfDisk disk limit map = (before : List ℕ) × IsCrashImage disk before × ((old : ℕ) (found : List Item) → Represents before old found → (limit ≡ old) × (map ≡ found))

-- an opening of a file that has kept one of these images finds such a map, if it succeeds
abbrev pub Finds : {D : Type 0} → (List ℕ → Type 0) → DiskState → Result (MapOn D) (ImageError D) → (ℕ → List Item → Type 0) → Type 0
Finds possible opened found P = KeepsModel possible opened → IfOk found (λ store. P store.limit store.items)

-- ---- after a run

-- A run from one disk to another wrote to the end of its input, or ended early for a cause.
abbrev pub WritesOn : {D : Type 0} (G : Ghosts D) → Option RunCause → D → D → Option (List ℕ) → Written → Written → Type 0
WritesOn G end from to input old new = WritesTo (Ghosts.honest G) end (Ghosts.state G from).bytes input (Ghosts.failures G from) (Ghosts.failures G to) old new (Ghosts.state G to)

-- Where power was lost at a moment since the run began: what the disk held before it, or the contents after a prefix.
abbrev pub FindsOfRun : {D : Type 0} (G : Ghosts D) → D → D → RunPoint → DiskState → Result (MapOn D) (ImageError D) → Type 0
FindsOfRun G from to last opened found = Finds (Ghosts.left_since G to (Ghosts.moment G from)) opened found (λ limit map. IsOfDisk (Ghosts.state G from) limit map ⊎ IsOfPrefixAlong last limit map)

-- A run that ended well, and where power was lost since it ended: the contents after all units.
pub record RanWell {D : Type 0} (G : Ghosts D) (from to : D) (input : Option (List ℕ)) (old new : Written) (opened : DiskState) (found : Result (MapOn D) (ImageError D)) : Type 0 where
  pub written : WritesOn G None from to input old new
  pub moment : FindsOfRun G from to written.run.last opened found
  pub ended : Finds (IsCrashImage (Ghosts.state G to)) opened found (λ limit map. (limit ≡ written.run.last.world.limit) × (map ≡ items_of written.run.last.world.state.flush.contents))

-- a run that ended early
pub record RanShort {D : Type 0} (G : Ghosts D) (cause : RunCause) (from to : D) (input : Option (List ℕ)) (old new : Written) (opened : DiskState) (found : Result (MapOn D) (ImageError D)) : Type 0 where
  pub written : WritesOn G (Some cause) from to input old new
  pub moment : FindsOfRun G from to written.run.last opened found

-- a run that did not start, where power was lost at a moment since it was called: what the disk held before it
abbrev pub FindsOld : {D : Type 0} (G : Ghosts D) → D → D → DiskState → Result (MapOn D) (ImageError D) → Type 0
FindsOld G from to opened found = Finds (Ghosts.left_since G to (Ghosts.moment G from)) opened found (IsOfDisk (Ghosts.state G from))
