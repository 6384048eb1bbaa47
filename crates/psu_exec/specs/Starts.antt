-- Why a device does not start from its disk, by why the disk is not opened or the power-on failed.
use Rattle.std.specs.Prelude.{◌≡◌, ℕ, List, true}
use Rattle.psu_map.specs.Map.{Item}
use Rattle.psu_nv.specs.Contents.{Contents, IsContents, items_of, fits}
use Rattle.psu_pages.specs.declared.faults.BadImage.TheVariants as BadImage
use Rattle.psu_pages.specs.declared.faults.OpenCause.{OpenCause}
use Rattle.psu_pages.specs.declared.faults.OpenCause.TheVariants as opening
use Rattle.psu_exec.specs.declared.start_cause.PowerCause.{PowerCause}
use Rattle.psu_exec.specs.declared.start_cause.PowerCause.TheVariants as power
use Rattle.psu_exec.specs.declared.start_cause.StartCause.TheVariants as start
use Rattle.psu_exec.specs.declared.start_cause.StartFault.{StartFault}
use Rattle.psu_exec.specs.declared.start_cause.StartFault.TheVariants.{Start, Memory}

abbrev pub start_of_opening : OpenCause → StartFault
start_of_opening opening.Device = Start start.Device
start_of_opening (opening.Image BadImage.NoRoot) = Start start.NoRoot
start_of_opening (opening.Image BadImage.BadRoot) = Start start.BadRoot
start_of_opening (opening.Image BadImage.BadVersion) = Start start.BadVersion
start_of_opening opening.Memory = Memory

abbrev pub start_of_power_on : PowerCause → StartFault
start_of_power_on power.BadItems = Start start.BadItems
start_of_power_on power.Memory = Memory

-- The items encode no contents that an image of this limit can store: a power-on refuses them for that reason only.
abbrev pub AreBad : ℕ → List Item → Type 0
AreBad limit items = (c : Contents) → IsContents c → fits limit c ≡ true → items_of c ≡ items → ⊥
