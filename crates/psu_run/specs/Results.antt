-- The result of a run.
use Rattle.std.specs.Prelude.{◌≡◌, ◌≢◌, ◌⊎◌, ℕ, ◌≤◌, true, Option, Some, None, List, [], IfSome, Result, Ok, Err}
use Rattle.psu_disk.specs.Disk.{DiskState, IsCrashImage, LeavesOnly}
use Rattle.psu_disk.specs.declared.disk.Disk.{Ghosts}
use Rattle.psu_map.specs.Map.{Item}
use Rattle.psu_items.specs.Image.{EachRepresents, Represents}
use Rattle.psu_nv.specs.Contents.{items_of}
use Rattle.psu_power_loss.specs.World.{World}
use Rattle.psu_run.specs.declared.recover_fault.RecoverFault.{RecoverFault}
use Rattle.psu_run.specs.declared.run_cause.RunCause.{RunCause}
use Rattle.psu_run.specs.declared.run_cause.RunCause.TheVariants.{Write}
use Rattle.psu_run.specs.declared.run_fault.RunFault.{RunFault}
use Rattle.psu_run.specs.declared.run_start.RunStart.{RunStart}
use Rattle.psu_run.specs.declared.run_start.RunStart.TheVariants as run_start
use Rattle.psu_run.specs.Lines.{Brings, Message}
use Rattle.psu_run.specs.Script.{IsScript}
use Rattle.psu_run.specs.Output.{Writes, WritesShort, Written}
use Rattle.psu_run.specs.Points.{PowersOn, RunPoint, at_power_on}
use Rattle.psu_run.specs.Ends.{EventsLead, IsAlong, IsLeftBy, NotStarted, RunsUpTo, StandsForPrefix, StopsFor, cause_of, fault_disk, start_of}

-- the disk that a run begins on
abbrev pub disk_from : {D A : Type 0} → RunStart D A → D
disk_from (run_start.Image disk) = disk
disk_from (run_start.Store store) = store.disk

-- the disk that a run returns
abbrev pub disk_of : {D A : Type 0} {G : Ghosts D} → Result D (RunFault D A G) → D
disk_of (Ok disk) = disk
disk_of (Err fault) = fault_disk fault

-- why it ends: well (`None`), or early for a cause
abbrev pub end_of : {D A : Type 0} {G : Ghosts D} → Result D (RunFault D A G) → Option RunCause
end_of (Ok disk) = None
end_of (Err fault) = Some fault.cause

-- ---- the result of a run

-- A run on this image with this end, from this count of failures, of the messages that the input brings, up to some point.
-- On an honest disk events of the theorem on power loss lead there from each world whose disk reads as the image.
pub record RunTo (honest : Type 0) (end : Option RunCause) (image : List ℕ) (input : Option (List ℕ)) (failures : ℕ) : Type 0 where
  pub power : World
  pub starts : PowersOn honest image power
  pub due : List Message
  pub brought : Brings input due
  pub last : RunPoint
  pub runs : RunsUpTo honest end due (at_power_on power failures) last
  pub since : honest → (before : World) → before.disk.bytes ≡ image → EventsLead before last.world

-- A run that did not start: the disk does not power on, for this cause. Nothing was read and nothing was written. An honest
-- disk shows why, and a map that each of its possible crash images represented, each still represents.
pub record DoesNotStart (honest : Type 0) (cause : RunCause) (old_count new_count : ℕ) (old_rest new_rest : Option (List ℕ)) (old_written new_written : Written) (old new : DiskState) : Type 0 where
  pub why : RecoverFault
  pub is : cause ≡ cause_of why
  pub reason : honest → NotStarted old.bytes old_count new_count (start_of why)
  pub unread : new_rest ≡ old_rest
  pub unwritten : Writes old_written new_written []
  pub kept : honest → (limit : ℕ) (map : List Item) → EachRepresents old limit map → EachRepresents new limit map

-- A run that ended, well (`None`) or early for a cause. Its text is written, except where the writer failed: then some of
-- it is missing. On an honest disk each possible crash image represents the contents after a prefix of the executed units
-- that holds every unit before an answered `*OPC?`, and where it ended well, those after all of them; events lead on to
-- that disk; and where it ended well and nothing went wrong, the text is the script of a known input.
pub record WritesTo (honest : Type 0) (end : Option RunCause) (image : List ℕ) (input : Option (List ℕ)) (old_count new_count : ℕ) (old_written new_written : Written) (disk : DiskState) : Type 0 where
  pub run : RunTo honest end image input old_count
  pub later : run.last.failures ≤ new_count
  pub stops : StopsFor honest run.runs.rest run.runs.at run.last new_count disk end
  pub left : honest → IsLeftBy run.last.world disk
  pub whole : end ≢ Some Write → Writes old_written new_written run.last.text
  pub missing : end ≡ Some Write → WritesShort old_written new_written run.last.text
  pub calm : honest → end ≡ None → run.last.calm ≡ true → IfSome input (λ bytes. IsScript run.power.start run.power.limit bytes run.last.text)
  pub kept : honest → (image : List ℕ) → IsCrashImage disk image → StandsForPrefix run.last.world image
  pub all : honest → end ≡ None → EachRepresents disk run.last.world.limit (items_of run.last.world.state.flush.contents)
  pub behind : honest → (stopped : World) × EventsLead run.last.world stopped × (stopped.disk ≡ disk)

-- the image represents each map that some possible crash image of the disk represented
abbrev pub IsAsBefore : DiskState → List ℕ → Type 0
IsAsBefore disk image = (before : List ℕ) × IsCrashImage disk before × ((limit : ℕ) (map : List Item) → Represents before limit map → Represents image limit map)

-- at a moment of a run up to this point: the image is as one of the disk before the run, or represents a prefix of what was
-- executed up to some point of it
abbrev pub IsOfRun : DiskState → RunPoint → List ℕ → Type 0
IsOfRun disk last image = IsAsBefore disk image ⊎ IsAlong last image

-- On a disk that records its moments, each possible crash image at any moment between has P.
abbrev pub EachMoment : {D : Type 0} (G : Ghosts D) → D → D → (List ℕ → Type 0) → Type 0
EachMoment G from to P = Ghosts.records G → LeavesOnly (Ghosts.moment G) (Ghosts.left_since G) from to P
