-- What the parts of a run leave of the device, the disk and the output.
use Rattle.std.specs.Prelude.{◌≡◌, ◌⊎◌, ℕ, ◌+◌, ◌≤◌, ◌^◌, true, Option, Some, None, List, ◌++◌, ⊤, option_map, unwrap_or}
use Rattle.psu_disk.specs.Disk.{HasFailed, IsCrashImage, LeavesOnly}
use Rattle.psu_disk.specs.declared.disk.Disk.{Ghosts}
use Rattle.psu_exec.specs.Device.{is_broken}
use Rattle.psu_power_loss.specs.World.{IsStart, World, Running}
use Rattle.psu_messages.specs.Effects.{Effect, needs}
use Rattle.psu_run.specs.declared.run_cause.RunCause.{RunCause}
use Rattle.psu_run.specs.declared.run_cause.RunCause.TheVariants.{Device, Memory, Write}
use Rattle.psu_run.specs.declared.run_fault.RunFault.{RunFault}
use Rattle.std.specs.Option.{ForSome}
use Rattle.psu_items.specs.Standing.{MapOn}
use Rattle.psu_exec.specs.Exec.{Exec}
use Rattle.psu_exec.specs.Jobs.{idle_disk}
use Rattle.psu_exec.specs.declared.idle_store.Condition.TheVariants.{Worn}
use Rattle.psu_messages.specs.Effects as effect
use Rattle.psu_exec.specs.declared.idle_store.IdleStore.TheVariants as idle_store
use Rattle.psu_run.specs.Lines.{Message}
use Rattle.psu_run.specs.Output.{HoldsLittle, OutputState, Says, SaysUntil}
use Rattle.psu_run.specs.Points.{IsUnit, IsWornOut, RunPoint, Runs}
use Rattle.psu_run.specs.Ends.{EventsLead, IsAlong, IsByFailure, IsLeftBy, IsWorn, RunsUpTo, StopsFor, fault_disk}

-- ---- from a device at rest to a later moment

abbrev pub IsMemory : RunCause → Type 0
IsMemory (Memory sign) = ⊤
IsMemory cause = ⊥

-- the disk of the idle store
abbrev pub disk_in : {D A : Type 0} {G : Ghosts D} → Exec D A G → Option D
disk_in exec = option_map idle_disk exec.idle_store

-- the count of its failures
abbrev pub failures_of : {D A : Type 0} {G : Ghosts D} → Exec D A G → ℕ
failures_of {D} {A} {G} exec = unwrap_or (option_map (Ghosts.failures G) (disk_in exec)) 0

-- at this point the device is at rest, and this is the disk of its idle store
abbrev pub IsAt : {D A : Type 0} {G : Ghosts D} → Exec D A G → D → RunPoint → Type 0
IsAt {D} {A} {G} exec disk p = (p.world.state ≡ exec.device) × (p.world.mode ≡ Running) × (p.world.disk ≡ Ghosts.state G disk) × (p.failures ≡ Ghosts.failures G disk)

-- events lead to this world from a device that has just been powered on
abbrev pub IsReached : World → Type 0
IsReached w = (first : World) × IsStart first × EventsLead first w

-- an image that is possible since now is a possible crash image of the disk as it is
abbrev pub IsOfNow : {D : Type 0} → Ghosts D → Type 0
IsOfNow {D} G = (d : D) (image : List ℕ) → Ghosts.left_since G d (Ghosts.moment G d) image → IsCrashImage (Ghosts.state G d) image

-- From a point to a later one, and from its disk to that of the later one: events lead on, and what was passed stays passed.
-- Of a disk that records its moments each possible crash image at any moment between represents a prefix of what was
-- executed up to some point.
abbrev pub LeadsOn : {D : Type 0} (G : Ghosts D) → D → D → RunPoint → RunPoint → Type 0
LeadsOn G from to p q = (EventsLead p.world q.world × ((image : List ℕ) → IsAlong p image → IsAlong q image))
    × (Ghosts.records G → IsOfNow G → IsReached p.world → LeavesOnly (Ghosts.moment G) (Ghosts.left_since G) from to (IsAlong q))

-- From a device at rest to a disk: its size stays, and the count of its failures does not fall. Steps lead from each point
-- at which the device is to one so that P; on an honest disk events lead on with them.
pub record Ran {D A : Type 0} {G : Ghosts D} (old : Exec D A G) (from to : D) (P : RunPoint → RunPoint → Type 0) : Type 0 where
  pub extent : Ghosts.extent G to ≡ Ghosts.extent G from
  pub later : Ghosts.failures G from ≤ Ghosts.failures G to
  pub leads : (p : RunPoint) → IsAt old from p → (q : RunPoint) × P p q × (Ghosts.honest G → LeadsOn G from to p q)

-- This count of failures is not past; and the disk is honest, or a store that is broken broke by a disk call that failed
-- after that count. So it is of the count at the start of a run on a store that was whole, throughout the run: then a
-- reopening that fails, as it may on a disk that is not honest although no call does, comes after a failure all the same.
abbrev pub IsTied : {D A : Type 0} {G : Ghosts D} → ℕ → Exec D A G → Type 0
IsTied {D} {A} {G} before exec = (before ≤ failures_of exec) × (Ghosts.honest G ⊎ (is_broken exec.device.flush.store ≡ true → HasFailed before (failures_of exec)))

-- these steps lead from one device at rest to another
pub record Leads {D A : Type 0} {G : Ghosts D} (old new : Exec D A G) (P : RunPoint → RunPoint → Type 0) : Type 0 where
  pub ran : ForSome (disk_in old) (λ from. (disk : D) × (disk_in new ≡ Some disk) × Ran old from disk (λ p q. IsAt new disk q × P p q))
  pub later : failures_of old ≤ failures_of new
  pub tied : (before : ℕ) → IsTied before old → IsTied before new

-- These steps lead to a device that stops for this cause: the disk failed after each count that is tied, or changes are
-- left and no number is left for a commit; or memory is refused, or the writer failed.
pub record DeviceStops {D A : Type 0} {G : Ghosts D} (old new : Exec D A G) (P : RunPoint → RunPoint → Type 0) (cause : RunCause) : Type 0 where
  pub leads : Leads old new P
  pub own : (cause ≡ Device) ⊎ IsMemory cause ⊎ (cause ≡ Write)
  pub why : cause ≡ Device → (before : ℕ) → IsTied before old → HasFailed before (failures_of new) ⊎ ((new.device.flush.store ≡ Worn) × (1 ≤ new.device.flush.unflushed))

-- the early end of a run for this cause: what it hands back is the store of the device, which is worn only where its
-- number is the last; an honest disk shows that
pub record FaultOf {D A : Type 0} {G : Ghosts D} (exec : Exec D A G) (cause : RunCause) (fault : RunFault D A G) : Type 0 where
  pub cause_is : fault.cause ≡ cause
  pub disk : disk_in exec ≡ Some (fault_disk fault)
  pub worn_is : exec.device.flush.store ≡ Worn → IsWorn fault.returned
  pub worn : Ghosts.honest G → IsWorn fault.returned → IsWornOut (Ghosts.state G (fault_disk fault)).bytes

-- an idle store is worn only where its number is the last
abbrev pub IsWornAtLast : {D A : Type 0} {G : Ghosts D} → Exec D A G → Type 0
IsWornAtLast {D} exec = (store : MapOn D) → exec.idle_store ≡ Some (idle_store.Whole store) → exec.device.flush.store ≡ Worn → 2 ^ 64 ≤ store.number + 1

-- An effect of a line on the device and on the output: a unit is executed with the flushes that it waits for, so its reply
-- is final and no unit is settled, and a text that is sent is appended to the output, of which little was buffered.
abbrev pub IsDone : {D A : Type 0} {G : Ghosts D} → Exec D A G → OutputState → Effect → Exec D A G → OutputState → Type 0
IsDone {D} {A} {G} old output (effect.Executed request reply) new now = (now ≡ output) × (needs reply ≡ None) × Leads old new (IsUnit (Ghosts.honest G) request reply)
IsDone old output (effect.Settled reply) new now = ⊥
IsDone old output (effect.Sent text last) new now = (new ≡ old) × Says output now text × HoldsLittle now text

-- these messages are executed, and their text is output
abbrev pub Answers : {D A : Type 0} {G : Ghosts D} → List Message → Exec D A G → Exec D A G → OutputState → OutputState → Type 0
Answers {D} {A} {G} due old new output now = (text : List ℕ) × Says output now text × Leads old new (λ p q. Runs (Ghosts.honest G) due p q × (q.text ≡ p.text ++ text))

-- a run of these messages ended, well or early for a cause, and output its text
abbrev pub Ends : {D A : Type 0} {G : Ghosts D} → Exec D A G → Option RunCause → D → List Message → OutputState → OutputState → Type 0
Ends {D} {A} {G} old end disk due output now = (text : List ℕ) × SaysUntil end output now text
    × ForSome (disk_in old) (λ from. Ran old from disk (λ p q. (runs : RunsUpTo (Ghosts.honest G) end due p q)
    × ((q.failures ≤ Ghosts.failures G disk) × StopsFor (Ghosts.honest G) runs.rest runs.at q (Ghosts.failures G disk) (Ghosts.state G disk) end × (Ghosts.honest G → IsLeftBy q.world (Ghosts.state G disk))) × (q.text ≡ p.text ++ text)))

-- it ended early by this fault
abbrev pub EndsEarly : {D A : Type 0} {G : Ghosts D} → Exec D A G → RunFault D A G → List Message → OutputState → OutputState → Type 0
EndsEarly {D} {A} {G} old fault due output now = Ends old (Some fault.cause) (fault_disk fault) due output now × ((before : ℕ) → IsTied before old → IsByFailure G before fault)
