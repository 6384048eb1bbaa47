-- What threads do with a disk: the calls of a history, the runs of its jobs, and the disks that these leave.
use Rattle.std.specs.Prelude.{◌≡◌, ◌⊎◌, ℕ, ◌≤◌, false, Option, Some, None, List, [], ◌∷◌, ⊤}
use Rattle.psu_disk.specs.Disk.{DiskState, IsCrashImage}
use Rattle.psu_disk.specs.declared.disk.Disk.{Ghosts}
use Rattle.psu_items.specs.Image.{Represents}
use Rattle.psu_items.specs.Standing.{IsOnDisk, MapOn}
use Rattle.psu_nv.specs.Contents.{items_of}
use Rattle.psu_exec.specs.Consistent.{IsConsistent, MayBeKept}
use Rattle.psu_exec.specs.Device.{State, target}
use Rattle.psu_exec.specs.Calls.{Entry, Taken, Allows, HasWork, JobData, JobEnd, job_of, job_out, sessions_over, with_stored}
use Rattle.psu_exec.specs.Calls.Entry.{Took, GaveBack}
use Rattle.psu_power_loss.specs.Headline.{IsPrefix}
use Rattle.psu_exec.specs.Jobs.{EndStands, finished_disk, finished_of, job_data, job_disk}
use Rattle.psu_power_loss.specs.World.{World, Running, Moves, IsStart, after}
use Rattle.psu_exec.specs.AcceptedEnd.{IsTrueOf, accepted_end}
use Rattle.psu_exec.specs.declared.job.End.{End as EndOf}
use Rattle.psu_turn.specs.History.{HistoryLeads, numbered}
use Rattle.psu_turn.specs.Seats.{Sight}
use Rattle.psu_turn.specs.declared.numbered.Numbered.{Numbered}
use Rattle.psu_bench.specs.Calls.{AllowsOn}
use Rattle.psu_bench.specs.Callers.{HasRun}
use Rattle.psu_bench.specs.JobRun.{JobRun}
use Rattle.psu_bench.specs.declared.flushing.JobEnding.{JobEnding}
use Rattle.psu_bench_power_loss.specs.Lives.{Happening, Called, Moved, Lives, calls_in}

-- ---- the steps of threads

-- A step of a thread.
pub data ThreadStep (D A : Type 0) (G : Ghosts D) : Type 0 where
  -- a call that takes no job and whose end, if it gives one back, is not accepted
  CallMade : (call : Numbered Entry) → ThreadStep D A G
  -- a take, under the seat's number, of the job that is then run
  Takes : (seat : ℕ) → (run : JobRun D A G) → ThreadStep D A G
  -- a disk call of that run, with the disk that it leaves
  Reaches : (disk : D) → ThreadStep D A G
  -- a give-back of this finished job, which is accepted, with the sessions whose wait is then over
  Gives : (seat : ℕ) → (finished : EndOf D A G) → (over : List ℕ) → ThreadStep D A G

-- The steps as calls and disk calls, each with the disk after it: that of the threads, which is this one before them.
abbrev pub shown : {D A : Type 0} {G : Ghosts D} → DiskState → List (ThreadStep D A G) → List Happening
shown disk [] = []
shown disk (CallMade call ∷ more) = Called call disk ∷ shown disk more
shown disk (Takes seat run ∷ more) = Called (numbered seat (Took (Taken.Job (job_data run.job)))) disk ∷ shown disk more
shown {D} {A} {G} disk (Reaches next ∷ more) = Moved (Ghosts.state G next) ∷ shown (Ghosts.state G next) more
shown {D} {A} {G} disk (Gives seat finished over ∷ more) =
    Called (numbered seat (GaveBack (finished_of finished) (Some over))) (Ghosts.state G (finished_disk finished)) ∷ shown (Ghosts.state G (finished_disk finished)) more

-- ---- the disks of the steps

-- the job that a call takes
abbrev pub taken_job : Entry → Option JobData
taken_job (Took (Taken.Job job)) = Some job
taken_job _ = None

-- no job is taken, and no end is accepted
abbrev pub IsPlain : Entry → Type 0
IsPlain entry = (taken_job entry ≡ None) × (accepted_end entry ≡ None)

-- A disk call of the run that succeeds or fails, on a disk that records its moments: it changes the disk as a disk call
-- may, and each crash image that is possible since the run began, up to the disk after it, is possible since then at the
-- run's end.
pub record IsDiskCall {D A : Type 0} {G : Ghosts D} (run : JobRun D A G) (old new : D) : Type 0 where
  pub recorded : Ghosts.records G
  pub moves : Moves (Ghosts.state G old) (Ghosts.state G new)
  pub later : Ghosts.moment G (job_disk run.job) ≤ Ghosts.moment G new
  pub within : (image : List ℕ) → Ghosts.left_since G new (Ghosts.moment G (job_disk run.job)) image → Ghosts.left_since G (finished_disk run.finished) (Ghosts.moment G (job_disk run.job)) image

-- the same, of the run that is under way, if one is
abbrev pub IsDiskCallOf : {D A : Type 0} {G : Ghosts D} → Option (JobRun D A G) → D → D → Type 0
IsDiskCallOf None old new = ⊥
IsDiskCallOf (Some run) old new = IsDiskCall run old new

-- The steps have these disks, from one to the last, with this run under way before them or none. A disk call is one of
-- the run; then the disk is the one that the accepted end carries, of which that is true which `Job::run` states of each
-- end.
abbrev pub HaveDisks : (D A : Type 0) (G : Ghosts D) → Option (JobRun D A G) → D → List (ThreadStep D A G) → D → Type 0
HaveDisks D A G run disk [] last = last ≡ disk
HaveDisks D A G run disk (CallMade call ∷ more) last = IsPlain call.entry × HaveDisks D A G run disk more last
HaveDisks D A G run disk (Takes seat begun ∷ more) last = HaveDisks D A G (Some begun) disk more last
HaveDisks D A G run disk (Reaches next ∷ more) last = IsDiskCallOf run disk next × HaveDisks D A G run next more last
HaveDisks D A G run disk (Gives seat finished over ∷ more) last = (Ghosts.honest G → EndStands finished) × HaveDisks D A G None (finished_disk finished) more last

-- the run that is under way after the steps, if one is, where this one was before them
abbrev pub under_way : {D A : Type 0} {G : Ghosts D} → Option (JobRun D A G) → List (ThreadStep D A G) → Option (JobRun D A G)
under_way run [] = run
under_way run (CallMade call ∷ more) = under_way run more
under_way run (Takes seat begun ∷ more) = under_way (Some begun) more
under_way run (Reaches next ∷ more) = under_way run more
under_way run (Gives seat finished over ∷ more) = under_way None more

-- the image is possible at a moment of the run that is under way, on a disk that records its moments
abbrev pub IsOfMoment : {D A : Type 0} {G : Ghosts D} → Option (JobRun D A G) → List ℕ → Type 0
IsOfMoment None image = ⊥
IsOfMoment {D} {A} {G} (Some run) image = Ghosts.records G × Ghosts.left_since G (finished_disk run.finished) (Ghosts.moment G (job_disk run.job)) image

-- A power loss after the steps may leave this image: it is possible on the threads' disk, or at a moment of the run that
-- is under way.
abbrev pub IsPossibleAfter : {D A : Type 0} {G : Ghosts D} → List (ThreadStep D A G) → D → List ℕ → Type 0
IsPossibleAfter {D} {A} {G} steps disk image = IsCrashImage (Ghosts.state G disk) image ⊎ IsOfMoment (under_way None steps) image

-- ---- the laws

-- An end that is accepted is true of the disk that it carries.
abbrev pub EndsAreTrue : (D A : Type 0) → Ghosts D → Type 0
EndsAreTrue D A G = (s new : State) (finished : EndOf D A G) (over : List ℕ)
    → IsConsistent s.flush → EndStands finished → Allows s (GaveBack (finished_of finished) (Some over)) new → IsTrueOf (target s.flush) (finished_of finished) (Ghosts.state G (finished_disk finished))

-- These happen in world w as events of the power-loss theorem, one after another, and lead to this state and this disk.
pub record Occurs (w : World) (happenings : List Happening) (state : State) (disk : DiskState) : Type 0 where
  pub new : World
  pub lives : Lives w happenings new
  pub running : new.mode ≡ Running
  pub state_is : new.state ≡ state
  pub disk_is : new.disk ≡ disk

-- So do the steps of threads whose calls are a legal history, each with the disk of the threads, and lead to the
-- history's state and the threads' last disk.
abbrev pub ThreadsAreEvents : (D A : Type 0) → Ghosts D → Type 0
ThreadsAreEvents D A G = (w : World) (first last : D) (steps : List (ThreadStep D A G)) (state : State)
    → w.mode ≡ Running → IsConsistent w.state.flush → w.disk ≡ Ghosts.state G first → HaveDisks D A G None first steps last → HistoryLeads (AllowsOn (Ghosts.honest G)) w.state (calls_in (shown w.disk steps)) state
    → Occurs w (shown w.disk steps) state (Ghosts.state G last)

-- Therefore each image that a power loss may leave after any steps of threads since a power-on, also midway through a job,
-- represents the contents after a prefix of the executed units that includes every unit before an answered `*OPC?`.
abbrev pub DisksLeavePrefix : (D A : Type 0) → Ghosts D → Type 0
DisksLeavePrefix D A G = (w : World) (first last : D) (steps : List (ThreadStep D A G)) (state : State) (image : List ℕ)
    → IsStart w → w.disk ≡ Ghosts.state G first → HaveDisks D A G None first steps last → HistoryLeads (AllowsOn (Ghosts.honest G)) w.state (calls_in (shown w.disk steps)) state → IsPossibleAfter steps last image
    → (now : World) × (k : ℕ) × Lives w (shown w.disk steps) now × IsPrefix now k × MayBeKept now.limit (after now k) × Represents image now.limit (items_of (after now k))

-- ---- the rounds of seats

-- a call that takes no job and whose end, if it gives one back, is not accepted; or the take of a run; or an accepted
-- give-back of its result
abbrev pub IsOfRounds : (D A : Type 0) → Ghosts D → Numbered Entry → Type 0
IsOfRounds D A G call = IsPlain call.entry
    ⊎ (((run : JobRun D A G) × (call.entry ≡ Took (Taken.Job (job_data run.job))))
    ⊎ ((run : JobRun D A G) × (over : List ℕ) × (Ghosts.honest G → EndStands run.finished) × (call.entry ≡ GaveBack (finished_of run.finished) (Some over))))

abbrev pub AreOfRounds : (D A : Type 0) → Ghosts D → List (Numbered Entry) → Type 0
AreOfRounds D A G [] = ⊤
AreOfRounds D A G (call ∷ more) = IsOfRounds D A G call × AreOfRounds D A G more

-- The calls of a round that a seat makes are such.
abbrev pub RoundsAreRuns : (D A : Type 0) → Ghosts D → Type 0
RoundsAreRuns D A G = (ending : JobEnding) (over : List ℕ) (old new : Sight State Entry) → (round : HasRun A G ending over old new) → (seat : ℕ)
    → IsOfRounds D A G (numbered seat (Took (Taken.Job (job_data round.run.job)))) × IsOfRounds D A G (numbered seat (GaveBack (finished_of round.run.finished) round.given))

-- Steps whose calls are this history, with the disks that they have.
pub record HasSteps (D A : Type 0) (G : Ghosts D) (disk : DiskState) (first : D) (history : List (Numbered Entry)) : Type 0 where
  pub steps : List (ThreadStep D A G)
  pub last : D
  pub have : HaveDisks D A G None first steps last
  pub calls : calls_in (shown disk steps) ≡ history

-- A history whose takes and accepted ends are those of rounds has such steps, so the laws hold of it.
abbrev pub RoundsHaveSteps : (D A : Type 0) → Ghosts D → Type 0
RoundsHaveSteps D A G = (disk : DiskState) (first : D) (history : List (Numbered Entry)) → AreOfRounds D A G history → HasSteps D A G disk first history

-- ---- such steps exist

-- A run of the job that there is to take, whose result is the store of its target: what `Exec::take`, `Job::run` and
-- the disk state of it. The run is one disk call.
pub record StoresTarget {D A : Type 0} {G : Ghosts D} (w : World) (first : D) (run : JobRun D A G) (store : MapOn D) : Type 0 where
  pub free : w.state.flush.out ≡ false
  pub work : HasWork w.state.flush
  pub job : job_data run.job ≡ job_of (job_out w.state.flush)
  pub ended : finished_of run.finished ≡ JobEnd.Stored store.limit store.items
  pub limit : store.limit ≡ (job_out w.state.flush).limit
  pub items : store.items ≡ target (job_out w.state.flush)
  pub on : IsOnDisk (Ghosts.state G) store
  pub stands : EndStands run.finished
  pub call : IsDiskCall run first (finished_disk run.finished)

-- the state after the take
abbrev pub taken : World → State
taken w = record w.state { flush = job_out w.state.flush }

-- its steps: the job is taken, its disk call is made, and its end is given back
abbrev pub one_job : {D A : Type 0} {G : Ghosts D} → World → JobRun D A G → List (ThreadStep D A G)
one_job w run = Takes 1 run ∷ Reaches (finished_disk run.finished) ∷ Gives 1 run.finished (sessions_over (with_stored (taken w)).flush) ∷ []

-- The premises of the laws hold of these steps: they have the disks, and their calls are a legal history.
abbrev pub SomeStepsExist : (D A : Type 0) → Ghosts D → Type 0
SomeStepsExist D A G = (w : World) (first : D) (run : JobRun D A G) (store : MapOn D) → StoresTarget w first run store
    → HaveDisks D A G None first (one_job w run) (finished_disk run.finished) × HistoryLeads (AllowsOn (Ghosts.honest G)) w.state (calls_in (shown w.disk (one_job w run))) (with_stored (taken w))
