-- The points of a run, and the steps between them: calls on the device, and restarts after a power loss.
use Rattle.std.specs.Prelude.{◌≡◌, ◌≢◌, ◌⊎◌, ℕ, zero, suc, ◌+◌, ◌≤◌, ◌^◌, Bool, true, false, ◌&&◌, if◌then◌else◌, Option, Some, None, List, [], ◌∷◌, ◌++◌, length, is_none, ⊤}
use Rattle.psu_disk.specs.Disk.{DiskState, HasFailed}
use Rattle.psu_items.specs.Image.{EachRepresents, Represents, current_root, number_in}
use Rattle.psu_lex.specs.declared.scpi_error.ScpiError.TheVariants.{OutOfMemory}
use Rattle.psu_nv.specs.Contents.{IsContents, fits, items_of}
use Rattle.psu_tree.specs.declared.command.Request.{Request}
use Rattle.psu_exec.specs.Calls.{Cleared, Commit, Entry, Executed, Failed, GaveBack, Job, JobData, JobEnd, JobKind, Nothing, Opened, Reopen, Reopened, Serves, Settled, Stored, Took, Unstarted}
use Rattle.psu_exec.specs.Device.{Error, Later, Parked, Reply, State, is_broken, power_on}
use Rattle.psu_power_loss.specs.World.{CallsBy, DiskAfter, Running, World, is_executed, recorded}
use Rattle.psu_messages.specs.Effects.{Effect, needs}
use Rattle.psu_messages.specs.Executions.{Advances, IsOver, Progress, beginning}
use Rattle.psu_items.specs.declared.broken.BrokenCause.TheVariants as broken_cause
use Rattle.psu_items.specs.declared.commit.UnstartedCause.TheVariants as unstarted
use Rattle.psu_messages.specs.Effects as effect
use Rattle.psu_run.specs.Lines.{Message, messages}
use Rattle.psu_run.specs.Script.{IsScript}

-- ---- points and steps

-- A point of a run: the device, and what led there from power-on: the count of its disk's failures, whether all was calm,
-- the worlds that were passed, the last of them first, and the text so far.
pub record RunPoint : Type 0 where
  pub world : World
  pub failures : ℕ
  pub calm : Bool
  pub passed : List World
  pub text : List ℕ

abbrev pub at_power_on : World → ℕ → RunPoint
at_power_on first failures = record { world = first; failures = failures; calm = true; passed = []; text = [] }

-- The device powers on with some contents, and the one session is opened. On an honest disk they are those that the image
-- represents, and each possible crash image of the disk, which has its size.
pub record PowersOn (honest : Type 0) (image : List ℕ) (new : World) : Type 0 where
  pub on : World
  pub state : on.state ≡ power_on on.limit on.start
  pub history : on.history ≡ []
  pub mode : on.mode ≡ Running
  pub sound : IsContents on.start
  pub fitting : fits on.limit on.start ≡ true
  pub disk : honest → EachRepresents on.disk on.limit (items_of on.start)
  pub found : honest → Represents image on.limit (items_of on.start)
  pub size : honest → length on.disk.bytes ≡ length image
  pub opens : (disk : DiskState) × CallsBy Serves on (Opened (Some 1)) disk new

-- why a job failed: memory was refused, no number is left for a commit, or the store is broken
pub data JobFault : Type 0 where
  MemoryRefused : JobFault
  NoNumber : JobFault
  StoreBroken : JobFault

abbrev pub fault_of : JobEnd → Option JobFault
fault_of (Unstarted limit before edits unstarted.Memory) = Some MemoryRefused
fault_of (Unstarted limit before edits unstarted.Worn) = Some NoNumber
fault_of (Failed limit before edits broken_cause.Memory) = Some MemoryRefused
fault_of (Failed limit before edits cause) = Some StoreBroken
fault_of finished = None

-- the current root has the last number, so no number is left for a commit
abbrev pub IsWornOut : List ℕ → Type 0
IsWornOut image = 2 ^ 64 ≤ number_in (current_root image) image + 1

-- A call gets its reply from the device, and is not ignored. On an honest disk an end that is accepted is true of the disk:
-- then the call is an event of the theorem on power loss (`happens`, in proofs/OneList.antt).
abbrev pub CallsOn : Type 0 → World → Entry → DiskState → World → Type 0
CallsOn honest w entry disk new = (s : State) × (w.mode ≡ Running) × Serves w.state entry s × (honest → DiskAfter w entry disk)
    × (new ≡ record w { state = s; history = recorded w.state entry w.history; disk = disk })

-- Where there is no call, power is lost and the device powers on again; then no store is broken.
abbrev pub LeadsTo : Type 0 → World → Option Entry → World → Type 0
LeadsTo honest w (Some entry) new = (disk : DiskState) × CallsOn honest w entry disk new
LeadsTo honest w None new = (is_broken w.state.flush.store ≡ false) × PowersOn honest w.disk.bytes new

-- no memory is refused for a unit, and no job fails
abbrev pub is_calm : Option Entry → Bool
is_calm (Some (Executed session request (Error OutOfMemory))) = false
is_calm (Some (GaveBack finished over)) = is_none (fault_of finished)
is_calm call = true

-- A step from one point to another. The count of failures does not fall; on an honest disk it rises, or is at its last
-- value, where a job broke the store, or left it broken, and not out of memory, and a commit finds no number left only where
-- the disk shows that. The text stays.
pub record Steps (honest : Type 0) (p : RunPoint) (call : Option Entry) (q : RunPoint) : Type 0 where
  pub leads : LeadsTo honest p.world call q.world
  pub later : p.failures ≤ q.failures
  pub gave : (finished : JobEnd) (over : Option (List ℕ)) → call ≡ Some (GaveBack finished over) → honest
      → (fault_of finished ≡ Some StoreBroken → HasFailed p.failures q.failures) × (fault_of finished ≡ Some NoNumber → IsWornOut q.world.disk.bytes)
  pub is : q ≡ record p { world = q.world; failures = q.failures; calm = p.calm && is_calm call; passed = p.world ∷ p.passed }

abbrev pub Calls : Type 0 → RunPoint → Entry → RunPoint → Type 0
Calls honest p entry q = Steps honest p (Some entry) q

-- ---- units, lines and messages

-- a job of this kind may end this way
abbrev pub EndsJob : JobKind → JobEnd → Type 0
EndsJob Commit (Reopened limit map) = ⊥
EndsJob Reopen (Stored limit map) = ⊥
EndsJob Reopen (Unstarted limit before edits cause) = ⊥
EndsJob kind finished = ⊤

-- one take, job and give-back; a job that ends out of memory ends the run
abbrev pub IsJob : Type 0 → JobKind → RunPoint → RunPoint → Type 0
IsJob honest kind p q = (job : JobData) × (finished : JobEnd) × (over : List ℕ) × (out : RunPoint)
    × Calls honest p (Took (Job job)) out × Calls honest out (GaveBack finished (Some over)) q
    × (job.kind ≡ kind) × EndsJob kind finished × (fault_of finished ≢ Some MemoryRefused)

-- jobs until there is none, at most that many
abbrev pub Jobs : Type 0 → ℕ → RunPoint → RunPoint → Type 0
Jobs honest zero p q = q ≡ p
Jobs honest (suc n) p q = Calls honest p (Took Nothing) q ⊎ ((kind : JobKind) × (mid : RunPoint) × IsJob honest kind p mid × Jobs honest n mid q)

abbrev pub IsFlush : Type 0 → RunPoint → RunPoint → Type 0
IsFlush honest p q = Jobs honest 4 p q

-- a unit that is answered at once, or after its wait, which a flush ends
abbrev pub Acts : Type 0 → Request → Reply → RunPoint → RunPoint → Type 0
Acts honest request reply p q = (needs reply ≡ None) × (Calls honest p (Executed 1 request reply) q
    ⊎ ((parked : RunPoint) × (over : RunPoint) × Calls honest p (Executed 1 request Parked) parked × IsFlush honest parked over × Calls honest over (Settled 1 reply) q))

-- a unit; where its reply is `Later`, it is executed again after a flush
abbrev pub IsUnit : Type 0 → Request → Reply → RunPoint → RunPoint → Type 0
IsUnit honest request reply p q = Acts honest request reply p q
    ⊎ ((late : RunPoint) × (again : RunPoint) × Calls honest p (Executed 1 request Later) late × IsFlush honest late again × Acts honest request reply again q)

-- the request that a call executes; a unit whose reply is `Later` or `Held` isn't executed
abbrev pub executed_by : Entry → List Request
executed_by (Executed session request reply) = if is_executed reply then request ∷ [] else []
executed_by entry = []

-- the calls that a run makes: units, ends of a wait and drops of one, each of its one session, and those of jobs
abbrev pub IsRunCall : Entry → Type 0
IsRunCall (Executed session request reply) = session ≡ 1
IsRunCall (Settled session reply) = session ≡ 1
IsRunCall (Cleared session) = session ≡ 1
IsRunCall (Took taken) = ⊤
IsRunCall (GaveBack finished over) = ⊤
IsRunCall entry = ⊥

-- such calls lead from one point to another, and execute a prefix of these requests
pub data Begins (honest : Type 0) : List Request → RunPoint → RunPoint → Type 0 where
  NoCall : {requests : List Request} {p q : RunPoint} → q ≡ p → Begins honest requests p q
  OneCall : {requests : List Request} {p q : RunPoint} (entry : Entry) (mid : RunPoint) (more : List Request) → IsRunCall entry → Calls honest p entry mid → requests ≡ executed_by entry ++ more → Begins honest more mid q → Begins honest requests p q

-- an effect of a line; a unit is executed with the flushes that it waits for, so no unit is settled
abbrev pub Does : Type 0 → RunPoint → Effect → RunPoint → Type 0
Does honest p (effect.Executed request reply) q = IsUnit honest request reply p q
Does honest p (effect.Settled reply) q = ⊥
Does honest p (effect.Sent text last) q = q ≡ record p { text = p.text ++ text }

-- Messages, one after another. All of a line is executed, in the words of psu_messages; a broken store is reopened before
-- a power loss.
abbrev pub Runs : Type 0 → List Message → RunPoint → RunPoint → Type 0
Runs honest [] p q = q ≡ p
Runs honest (Message.Power ∷ ms) p q = (mid : RunPoint) × (on : RunPoint) × ((mid ≡ p) ⊎ IsJob honest Reopen p mid) × Steps honest mid None on × Runs honest ms on q
Runs honest (Message.Line source ∷ ms) p q = (mid : RunPoint) × (end : Progress) × Advances (Does honest) source p beginning mid end × IsOver source end × Runs honest ms mid q

-- where nothing goes wrong, what may be written on an honest disk is the script
abbrev pub ScriptAlone : Type 0 → Type 0
ScriptAlone honest = honest → (image input : List ℕ) (power : World) (failures : ℕ) (last : RunPoint)
    → PowersOn honest image power → Runs honest (messages input) (at_power_on power failures) last → last.calm ≡ true → IsScript power.start power.limit input last.text
