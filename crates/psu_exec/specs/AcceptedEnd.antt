-- The end of a job that a call accepts, and what it says of the disk.
use Rattle.std.specs.Prelude.{Option, Some, None, List}
use Rattle.psu_disk.specs.Disk.{DiskState}
use Rattle.psu_map.specs.Map.{Item}
use Rattle.psu_items.specs.Image.{EachRepresents, EachIsEither}
use Rattle.psu_exec.specs.Calls.{Entry, GaveBack, JobEnd, Stored, Unstarted, Failed, Reopened}

-- what each possible crash image of the disk of an accepted end represents
abbrev pub IsTrueOf : List Item → JobEnd → DiskState → Type 0
IsTrueOf goal (Stored limit map) disk = EachRepresents disk limit map
IsTrueOf goal (Unstarted limit before edits cause) disk = EachRepresents disk limit before
IsTrueOf goal (Failed limit before edits cause) disk = EachIsEither disk limit before goal
IsTrueOf goal (Reopened limit map) disk = EachRepresents disk limit map

-- the end of a job that a call gives back, if it is accepted
abbrev pub accepted_end : Entry → Option JobEnd
accepted_end (GaveBack finished (Some over)) = Some finished
accepted_end _ = None
