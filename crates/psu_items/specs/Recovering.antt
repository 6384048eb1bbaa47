-- Why a store stays broken, by why its disk is not opened.
use Rattle.psu_pages.specs.declared.faults.OpenCause.{OpenCause}
use Rattle.psu_pages.specs.declared.faults.OpenCause.TheVariants as Unopened
use Rattle.psu_items.specs.declared.broken.BrokenCause.{BrokenCause}
use Rattle.psu_items.specs.declared.broken.BrokenCause.TheVariants.{Device, Strange, Memory}

abbrev pub broken_cause : OpenCause → BrokenCause
broken_cause Unopened.Device = Device
broken_cause (Unopened.Image bad) = Strange
broken_cause Unopened.Memory = Memory
