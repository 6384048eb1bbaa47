-- How far a run gets, what is on the disk then, and why it ends.
use Rattle.std.specs.Prelude.{◌≡◌, ◌⊎◌, ℕ, ◌+◌, ◌≤◌, ◌^◌, false, Option, Some, None, List, [], ◌∷◌, ◌++◌, length, Any, ⊤}
use Rattle.psu_disk.specs.Disk.{DiskState, HasFailed, IsCrashImage}
use Rattle.psu_disk.specs.declared.disk.Disk.{Ghosts}
use Rattle.psu_map.specs.Map.{Item}
use Rattle.psu_items.specs.Image.{EachRepresents, HasBadRoot, HasNoRoot, HasOtherVersion, HasReadableRoot, Represents}
use Rattle.psu_nv.specs.Contents.{items_of}
use Rattle.psu_tree.specs.declared.command.Request.{Request}
use Rattle.psu_exec.specs.Calls.{Entry, GaveBack, Reopen, Took, Cleared}
use Rattle.psu_exec.specs.Consistent.{MayBeKept}
use Rattle.psu_exec.specs.Device.{Reply, is_broken}
use Rattle.psu_power_loss.specs.Headline.{IsPrefix}
use Rattle.psu_exec.specs.Starts.{AreBad}
use Rattle.psu_power_loss.specs.World.{Event, Run, World, after}
use Rattle.psu_exec.specs.declared.start_cause.StartFault.{StartFault}
use Rattle.psu_messages.specs.Executions.{Advances, IsNext, Progress, beginning}
use Rattle.psu_run.specs.declared.run_cause.RunCause.{RunCause}
use Rattle.psu_run.specs.declared.run_cause.RunCause.TheVariants.{Device, Memory, Open, Write, Read, TooLong}
use Rattle.psu_run.specs.declared.run_fault.RunFault.{RunFault}
use Rattle.psu_run.specs.declared.recover_fault.RecoverFault.{RecoverFault}
use Rattle.psu_run.specs.declared.recover_fault.RecoverFault.TheVariants as recover_fault
use Rattle.psu_run.specs.declared.run_fault.Returned.{Returned}
use Rattle.psu_exec.specs.declared.start_cause.StartCause.TheVariants as start
use Rattle.psu_exec.specs.declared.start_cause.StartFault.TheVariants as start_fault
use Rattle.psu_exec.specs.Calls.{Memory as NoMemory}
use Rattle.psu_run.specs.declared.run_fault.Returned.TheVariants as returned
use Rattle.psu_run.specs.Lines.{Message}
use Rattle.psu_run.specs.Points.{Begins, Calls, Does, IsFlush, IsJob, IsUnit, IsWornOut, MemoryRefused, RunPoint, Runs, fault_of}

-- ---- how far a run gets

-- a call in which memory is refused: a take, or the end of a job
abbrev pub RefusesMemory : Entry → Type 0
RefusesMemory (Took NoMemory) = ⊤
RefusesMemory (GaveBack finished over) = fault_of finished ≡ Some MemoryRefused
RefusesMemory entry = ⊥

-- The last of the calls that led here, but for those that drop a wait, is one in which memory was refused.
pub data IsRefused (honest : Type 0) : RunPoint → Type 0 where
  InCall : {p q : RunPoint} (entry : Entry) → Calls honest p entry q → RefusesMemory entry → IsRefused honest q
  BeforeDrop : {p q : RunPoint} (session : ℕ) → IsRefused honest p → Calls honest p (Cleared session) q → IsRefused honest q

-- where memory is the cause, it was refused in the last call
abbrev pub IsRefusedFor : Type 0 → Option RunCause → RunPoint → Type 0
IsRefusedFor honest (Some (Memory sign)) q = IsRefused honest q
IsRefusedFor honest end q = ⊤

-- the device stops in calls that execute a prefix of these requests
abbrev pub Halts : Type 0 → Option RunCause → List Request → RunPoint → RunPoint → Type 0
Halts honest end requests p q = Begins honest requests p q × IsRefusedFor honest end q

-- How far the first of these messages gets. Of a line an execution has led to some point, whose text is written, with what
-- is not sent; and there the device stops in the next unit, or has executed it, all but for its answer. Of a power loss the
-- device stops while it reopens a broken store, or that is done. After the last message it stops in a flush. Or nothing of
-- the message has begun.
abbrev pub NextBegins : Type 0 → Option RunCause → List Message → RunPoint → RunPoint → Type 0
NextBegins honest end [] p q = (q ≡ p) ⊎ Halts honest end [] p q
NextBegins honest end (Message.Power ∷ ms) p q = (q ≡ p) ⊎ (IsJob honest Reopen p q × (is_broken q.world.state.flush.store ≡ false)) ⊎ Halts honest end [] p q
NextBegins honest end (Message.Line source ∷ ms) p q = (mid : RunPoint) × (at : Progress) × Advances (Does honest) source p beginning mid at
    × let said : RunPoint = record mid { text = mid.text ++ at.text.rest } in
    (q ≡ said) ⊎ ((request : Request) × IsNext source at request × (((reply : Reply) × IsUnit honest request reply said q) ⊎ Halts honest end (request ∷ []) said q))

-- Of the messages that are due, those before `rest` are executed, up to `at`, and the first of `rest` gets so far.
pub record RunsUpTo (honest : Type 0) (end : Option RunCause) (due : List Message) (first last : RunPoint) : Type 0 where
  pub done : List Message
  pub rest : List Message
  pub is : due ≡ done ++ rest
  pub at : RunPoint
  pub runs : Runs honest done first at
  pub begun : NextBegins honest end rest at last

-- ---- what is on the disk

-- The image represents the contents after a prefix of the units executed since power-on. That prefix contains every
-- unit before a `*OPC?` that was answered.
abbrev pub StandsForPrefix : World → List ℕ → Type 0
StandsForPrefix w image = (k : ℕ) × IsPrefix w k × MayBeKept w.limit (after w k) × Represents image w.limit (items_of (after w k))

-- the image represents a prefix of what was executed up to some point, this one or one before it
abbrev pub IsAlong : RunPoint → List ℕ → Type 0
IsAlong p image = Any (λ w. StandsForPrefix w image) (p.world ∷ p.passed)

-- A disk after the last call, or after a restart that failed then: each of its possible crash images is one of the last
-- world, or each possible crash image of either disk represents one map, the same for both, and their sizes are equal.
abbrev pub IsLeftBy : World → DiskState → Type 0
IsLeftBy w disk = ((image : List ℕ) → IsCrashImage disk image → IsCrashImage w.disk image)
    ⊎ ((limit : ℕ) × (map : List Item) × EachRepresents w.disk limit map × EachRepresents disk limit map × (length disk.bytes ≡ length w.disk.bytes))

-- events of the theorem on power loss lead from one world to another
abbrev pub EventsLead : World → World → Type 0
EventsLead w new = (events : List Event) × Run w events new

-- ---- why a run ends

-- A disk with this image does not power on for this cause; `before` and `now` are the counts of failures. A failed call
-- says nothing about the image; memory is refused only where no call failed and a root can be read.
abbrev pub NotStarted : List ℕ → ℕ → ℕ → StartFault → Type 0
NotStarted image before now (start_fault.Start start.Device) = HasFailed before now
NotStarted image before now (start_fault.Start start.NoRoot) = HasNoRoot image
NotStarted image before now (start_fault.Start start.BadRoot) = HasBadRoot image
NotStarted image before now (start_fault.Start start.BadVersion) = HasOtherVersion image
NotStarted image before now (start_fault.Start start.BadItems) = (limit : ℕ) × (map : List Item) × Represents image limit map × AreBad limit map
NotStarted image before now start_fault.Memory = (now ≡ before) × HasReadableRoot image

-- why a device does not start, as a run or a report says it: with a sign that memory was refused
abbrev pub start_of : RecoverFault → StartFault
start_of (recover_fault.Start cause) = start_fault.Start cause
start_of (recover_fault.Memory sign) = start_fault.Memory

abbrev pub cause_of : RecoverFault → RunCause
cause_of (recover_fault.Start cause) = Open cause
cause_of (recover_fault.Memory sign) = Memory sign

-- the next message is that of a power loss
abbrev pub IsAtPower : List Message → Type 0
IsAtPower (Message.Power ∷ ms) = ⊤
IsAtPower rest = ⊥

-- it ends between two messages, with the disk as it was after the first
abbrev pub IsBetween : RunPoint → RunPoint → ℕ → DiskState → Type 0
IsBetween at last now disk = (last ≡ at) × (last.world.disk ≡ disk) × (last.failures ≡ now)

-- Why a run ends before the first of these messages, at `at`, or in it, at `last`; `now` is the count of failures then, and
-- `disk` the disk. None: no message is left, and after a flush no change is. Memory: no disk call failed since the last
-- step. Open: a restart was refused, and on an honest disk only because it failed in it, since it still represents what it
-- did. Device: an honest disk failed since `at`, or, except in a restart, changes are left on a store whose root has the last
-- number.
abbrev pub StopsFor : Type 0 → List Message → RunPoint → RunPoint → ℕ → DiskState → Option RunCause → Type 0
StopsFor honest rest at last now disk None = (rest ≡ []) × IsFlush honest at last × (last.world.state.flush.unflushed ≡ 0) × (last.world.disk ≡ disk) × (last.failures ≡ now)
StopsFor honest rest at last now disk (Some Read) = IsBetween at last now disk
StopsFor honest rest at last now disk (Some TooLong) = IsBetween at last now disk
StopsFor honest rest at last now disk (Some Write) = ⊤
StopsFor honest rest at last now disk (Some (Memory sign)) = last.failures ≡ now
StopsFor honest rest at last now disk (Some (Open cause)) = IsAtPower rest × (honest → (cause ≡ start.Device) × HasFailed at.failures now)
StopsFor honest rest at last now disk (Some Device) = honest → HasFailed at.failures now ⊎ ((IsAtPower rest → ⊥) × (1 ≤ last.world.state.flush.unflushed) × IsWornOut disk.bytes)

-- ---- what is handed back

-- the disk of what a run hands back
abbrev pub returned_disk : {D A : Type 0} {G : Ghosts D} → Returned D A G → D
returned_disk (returned.Disk disk) = disk
returned_disk (returned.Store store) = store.disk
returned_disk (returned.Broken broken) = broken.disk

-- it is a store whose root has the last number, so no number is left for a commit
abbrev pub IsWorn : {D A : Type 0} {G : Ghosts D} → Returned D A G → Type 0
IsWorn (returned.Disk disk) = ⊥
IsWorn (returned.Store store) = 2 ^ 64 ≤ store.number + 1
IsWorn (returned.Broken broken) = ⊥

-- the disk that a run hands back with its fault
abbrev pub fault_disk : {D A : Type 0} {G : Ghosts D} → RunFault D A G → D
fault_disk fault = returned_disk fault.returned

-- An early end by a fault of the device, also in a restart: the disk failed after this count, unless the store that is
-- handed back is worn; and where it is, the image of an honest disk shows it.
pub record IsByFailure {D A : Type 0} (G : Ghosts D) (before : ℕ) (fault : RunFault D A G) : Type 0 where
  pub opening : fault.cause ≡ Open start.Device → HasFailed before (Ghosts.failures G (fault_disk fault))
  pub device : fault.cause ≡ Device → HasFailed before (Ghosts.failures G (fault_disk fault)) ⊎ IsWorn fault.returned
  pub worn : IsWorn fault.returned → Ghosts.honest G → IsWornOut (Ghosts.state G (fault_disk fault)).bytes

-- how many reads and how many writes fail in a run with this end: the one for which it ends
abbrev pub failed_reads : Option RunCause → ℕ
failed_reads (Some Read) = 1
failed_reads end = 0

abbrev pub failed_writes : Option RunCause → ℕ
failed_writes (Some Write) = 1
failed_writes end = 0
