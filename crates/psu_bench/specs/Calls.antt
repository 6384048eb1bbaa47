-- The calls of the bench, each with its reply: those of the device.
use Rattle.std.specs.Prelude.{Option, Some, None, ⊤}
use Rattle.psu_disk.specs.Disk.{DiskState}
use Rattle.psu_exec.specs.Device.{State, target}
use Rattle.psu_exec.specs.Calls.{Entry, JobEnd, Allows}
use Rattle.psu_exec.specs.AcceptedEnd.{IsTrueOf, accepted_end}

-- if an end is accepted, it is true of some disk
abbrev pub EndHasDisk : State → Option JobEnd → Type 0
EndHasDisk s (Some finished) = (disk : DiskState) × IsTrueOf (target s.flush) finished disk
EndHasDisk s None = ⊤

abbrev pub HasDisk : State → Entry → Type 0
HasDisk s entry = EndHasDisk s (accepted_end entry)

-- a call that the device allows; an end that is accepted is also true of some disk, if the disks of its kind are honest
abbrev pub AllowsOn : Type 0 → State → Entry → State → Type 0
AllowsOn honest s entry t = Allows s entry t × (honest → HasDisk s entry)
