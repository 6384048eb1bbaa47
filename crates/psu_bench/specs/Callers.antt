-- What the seat of a thread has seen once the thread has called the device.
use Rattle.std.specs.Prelude.{◌≡◌, ℕ, zero, suc, Bool, Option, Some, None, Result, Ok, Err, List, []}
use Rattle.std.specs.declared.alloc.Global.{Global}
use Rattle.psu_disk.specs.declared.disk.Disk.{Ghosts}
use Rattle.psu_turn.specs.Seats.{Sight, SeatCalls}
use Rattle.psu_locks.specs.declared.results.Freed.{Freed}
use Rattle.psu_locks.specs.declared.results.LockRefusal.{LockRefusal}
use Rattle.psu_exec.specs.Device.{State}
use Rattle.psu_exec.specs.Quiet.{IsQuiet}
use Rattle.psu_exec.specs.Calls.{Entry, Job}
use Rattle.psu_exec.specs.Calls.Entry.{Took, GaveBack, Notified}
use Rattle.psu_exec.specs.Jobs.{EndStands, RunsTo, finished_of, job_data}
use Rattle.psu_exec.specs.Shown.{none_of}
use Rattle.psu_exec.specs.declared.job.End.{End}
use Rattle.psu_exec.specs.declared.job.End.TheVariants as finished
use Rattle.psu_items.specs.declared.commit.UnstartedCause.TheVariants as unstarted
use Rattle.psu_exec.specs.declared.job.NoJob.{NoJob}
use Rattle.psu_bench.specs.Calls.{AllowsOn}
use Rattle.psu_bench.specs.JobRun.{JobRun}
use Rattle.psu_bench.specs.declared.caused.Caused.{Caused}
use Rattle.psu_bench.specs.declared.caused.CausedByJob.{CausedByJob}
use Rattle.psu_bench.specs.declared.caused.Granted.{Granted}
use Rattle.psu_bench.specs.declared.flushing.JobEnding.{JobEnding}
use Rattle.psu_bench.specs.declared.flushing.JobEnding.TheVariants as ending

-- how a finished job ended
abbrev pub ending_of : {D A : Type 0} {G : Ghosts D} → End D A G → JobEnding
ending_of (finished.Stored store) = ending.Stored
ending_of (finished.Reopened store) = ending.Reopened
ending_of (finished.Broken broken) = ending.Broken
ending_of (finished.Unstarted store batch unstarted.Worn) = ending.Worn
ending_of (finished.Unstarted store batch unstarted.Memory) = ending.OutOfMemory

-- the sessions whose waits the end of a job has ended; none if it is the job of another device
abbrev pub over_sessions : Option (List ℕ) → List ℕ
over_sessions (Some over) = over
over_sessions None = []

-- The seat made a round of the flusher: it took a job, that very job was run, and its result was given back. Nothing else
-- was called. The job ended so, and the waits of these sessions are over. On an honest disk that is true of the result
-- which `Job::run` states of each.
pub record HasRun {D : Type 0} (A : Type 0) (G : Ghosts D) (ending : JobEnding) (over : List ℕ) (old new : Sight State Entry) : Type 0 where
  pub run : JobRun D A G
  pub ran : RunsTo run.job run.finished
  pub stands : Ghosts.honest G → EndStands run.finished
  pub given : Option (List ℕ)
  pub mid : Sight State Entry
  pub took : SeatCalls (AllowsOn (Ghosts.honest G)) old (Took (Job (job_data run.job))) mid
  pub gave : SeatCalls (AllowsOn (Ghosts.honest G)) mid (GaveBack (finished_of run.finished) given) new
  pub ended : ending ≡ ending_of run.finished
  pub are_over : over ≡ over_sessions given

-- the seat made a round of the flusher; where it gave no job, this is a take alone
abbrev pub MakesRound : {D : Type 0} (A : Type 0) (G : Ghosts D) → Result (JobEnding × List ℕ) NoJob → Sight State Entry → Sight State Entry → Type 0
MakesRound A G (Ok (ending, over)) old new = HasRun A G ending over old new
MakesRound A G (Err none) old new = SeatCalls (AllowsOn (Ghosts.honest G)) old (Took (none_of none)) new

-- this number of rounds, one after another
abbrev pub MakesRounds : {D : Type 0} (A : Type 0) (G : Ghosts D) → ℕ → Sight State Entry → Sight State Entry → Type 0
MakesRounds A G zero old new = new ≡ old
MakesRounds A G (suc n) old new = (mid : Sight State Entry) × (made : Result (JobEnding × List ℕ) NoJob) × MakesRounds A G n old mid × MakesRound A G made mid new

-- ---- what calls cause for other threads

-- a lock is released, and the lock requests of these sessions are then granted
abbrev pub freed_to : List ℕ → Result Freed LockRefusal → Result (Freed × List ℕ) LockRefusal
freed_to sessions (Ok freed) = Ok (freed, sessions)
freed_to sessions (Err refusal) = Err refusal

-- a release with the sessions whose lock requests are then granted
abbrev pub released_of : Result (Freed × Granted) LockRefusal → Result (Freed × List ℕ) LockRefusal
released_of (Ok (freed, granted)) = Ok (freed, granted.sessions)
released_of (Err refusal) = Err refusal

-- Whatever the state was, this call has caused nothing: no session has a new service request, and there is nothing new
-- to flush.
abbrev pub CausesNothing : Type 0 → Entry → Type 0
CausesNothing honest entry = (s new : State) → AllowsOn honest s entry new → IsQuiet s new

-- What this call has caused is what the notifications say that were then taken. Where none were taken it causes nothing.
abbrev pub IsNotified : Type 0 → Entry → Sight State Entry → Option Caused → Sight State Entry → Type 0
IsNotified honest entry old None new = (new ≡ old) × CausesNothing honest entry
IsNotified honest entry old (Some caused) new = SeatCalls (AllowsOn honest) old (Notified caused.requesting caused.wakes_flusher) new

-- the seat made this call, which has caused this
abbrev pub Causes : Type 0 → Sight State Entry → Entry → Option Caused → Sight State Entry → Type 0
Causes honest old entry caused new = (mid : Sight State Entry) × SeatCalls (AllowsOn honest) old entry mid × IsNotified honest entry mid caused new

-- The seat made a round of the flusher. What the end of its job has caused is what the notifications say that were then
-- taken.
abbrev pub CausesByRound : {D : Type 0} (G : Ghosts D) → Result CausedByJob NoJob → Sight State Entry → Sight State Entry → Type 0
CausesByRound G (Ok caused) old new = (mid : Sight State Entry)
    × HasRun Global G caused.ending caused.over old mid × SeatCalls (AllowsOn (Ghosts.honest G)) mid (Notified caused.requesting caused.has_work) new
CausesByRound G (Err none) old new = SeatCalls (AllowsOn (Ghosts.honest G)) old (Took (none_of none)) new
