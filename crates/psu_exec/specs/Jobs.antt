-- Jobs, their results, and the stores that they have.
use Rattle.std.specs.Prelude.{◌≡◌, ◌≢◌, ◌⊎◌, ◌≤◌, ◌+◌, ◌^◌, ℕ, false, List, Result, Ok, Err}
use Rattle.psu_disk.specs.Disk.{HasFailed}
use Rattle.psu_disk.specs.declared.disk.Disk.{Ghosts}
use Rattle.psu_map.specs.Batch.{Edit, changed}
use Rattle.psu_map.specs.Plan.{Planned}
use Rattle.psu_items.specs.Image.{EachIsEither, current_root, number_in}
use Rattle.psu_items.specs.Outcome.{HasStored, IsUnchanged, HasBroken, IsStillBroken}
use Rattle.psu_items.specs.Standing.{IsOnDisk, MapOn}
use Rattle.psu_items.specs.declared.commit.UnstartedCause.TheVariants as unstarted
use Rattle.psu_exec.specs.Batch.{batch}
use Rattle.psu_exec.specs.Calls.{JobData, JobEnd, Commit, Reopen, Taken}
use Rattle.psu_exec.specs.Device.{Flush, is_broken, target}
use Rattle.psu_exec.specs.Shown.{none_of}
use Rattle.psu_exec.specs.declared.idle_store.Condition.{Condition}
use Rattle.psu_exec.specs.declared.idle_store.Condition.TheVariants as condition
use Rattle.psu_exec.specs.declared.job.Job.{Job}
use Rattle.psu_exec.specs.declared.job.Job.TheVariants as job
use Rattle.psu_exec.specs.declared.job.NoJob.{NoJob}
use Rattle.psu_items.specs.declared.broken.Broken.{Broken}
use Rattle.psu_items.specs.declared.broken.BrokenCause.TheVariants as broken_cause
use Rattle.psu_exec.specs.declared.job.End.{End}
use Rattle.psu_exec.specs.declared.job.End.TheVariants as finished
use Rattle.psu_exec.specs.declared.idle_store.IdleStore.{IdleStore}
use Rattle.psu_exec.specs.declared.idle_store.IdleStore.TheVariants as idle_store

-- the result of a finished job, as data
abbrev pub finished_of : {D A : Type 0} {G : Ghosts D} → End D A G → JobEnd
finished_of (finished.Stored store) = JobEnd.Stored store.limit store.items
finished_of (finished.Unstarted store batch cause) = JobEnd.Unstarted store.limit store.items batch cause
finished_of (finished.Broken broken) = JobEnd.Failed broken.limit broken.before broken.batch broken.cause
finished_of (finished.Reopened store) = JobEnd.Reopened store.limit store.items

-- the disk of a finished job
abbrev pub finished_disk : {D A : Type 0} {G : Ghosts D} → End D A G → D
finished_disk (finished.Stored store) = store.disk
finished_disk (finished.Unstarted store batch cause) = store.disk
finished_disk (finished.Broken broken) = broken.disk
finished_disk (finished.Reopened store) = store.disk

-- the store once a job is given back
abbrev pub idle_store_of : {D A : Type 0} {G : Ghosts D} → End D A G → IdleStore D A G
idle_store_of (finished.Stored store) = idle_store.Whole store
idle_store_of (finished.Unstarted store batch cause) = idle_store.Whole store
idle_store_of (finished.Broken broken) = idle_store.Failed broken
idle_store_of (finished.Reopened store) = idle_store.Whole store

abbrev pub idle_disk : {D A : Type 0} {G : Ghosts D} → IdleStore D A G → D
idle_disk (idle_store.Whole store) = store.disk
idle_disk (idle_store.Failed broken) = broken.disk

-- the store is that of a device with this condition, this limit, and this map with its planned batch
abbrev pub Belongs : {D A : Type 0} {G : Ghosts D} → IdleStore D A G → Condition → ℕ → Planned → Type 0
Belongs (idle_store.Whole store) c limit plan = (store.items ≡ plan.map) × (store.limit ≡ limit) × (is_broken c ≡ false)
Belongs (idle_store.Failed broken) c limit plan = (broken.before ≡ plan.map) × (broken.limit ≡ limit) × (c ≡ condition.Broken) × (broken.batch ≡ plan.edits)

-- the store is that of a device with this flush part
abbrev pub IsStoreOf : {D A : Type 0} {G : Ghosts D} → Flush → IdleStore D A G → Type 0
IsStoreOf f store = Belongs store f.store f.limit (record { map = f.before; edits = batch f.before (target f) })

-- a job with its maps, as data
abbrev pub job_data : {D A : Type 0} {G : Ghosts D} → Job D A G → JobData
job_data (job.Commit planned) = record { kind = Commit; limit = planned.store.limit; before = planned.store.items; target = changed planned.store.items planned.batch; edits = planned.batch }
job_data (job.Reopen reopening) = record { kind = Reopen; limit = reopening.broken.limit; before = reopening.broken.before; target = changed reopening.broken.before reopening.broken.batch; edits = reopening.broken.batch }

abbrev pub job_disk : {D A : Type 0} {G : Ghosts D} → Job D A G → D
job_disk (job.Commit planned) = planned.store.disk
job_disk (job.Reopen reopening) = reopening.broken.disk

-- the store of a job, as it was before the job was taken
abbrev pub job_store : {D A : Type 0} {G : Ghosts D} → Job D A G → IdleStore D A G
job_store (job.Commit planned) = idle_store.Whole planned.store
job_store (job.Reopen reopening) = idle_store.Failed reopening.broken

-- the reply to a take
abbrev pub taken_of : {D A : Type 0} {G : Ghosts D} → Result (Job D A G) NoJob → Taken
taken_of (Ok job) = Taken.Job (job_data job)
taken_of (Err e) = none_of e

-- The possible results of a commit of the batch to the store: Stored only if the count of failures did not rise,
-- Broken only if it rose or is at its last value.
abbrev pub CommitsTo : {D A : Type 0} {G : Ghosts D} → MapOn D → List Edit → End D A G → Type 0
CommitsTo {D} {A} {G} old batch (finished.Stored store) = HasStored old batch store × (Ghosts.failures G store.disk ≡ Ghosts.failures G old.disk)
CommitsTo old batch (finished.Unstarted store back cause) = IsUnchanged old batch store back cause
CommitsTo old batch (finished.Broken broken) = HasBroken old batch broken
CommitsTo old batch (finished.Reopened store) = ⊥

-- A store of the map before or of the target, under the number of the root that was current, and no call of the disk
-- failed.
pub record HasReopened {D A : Type 0} {G : Ghosts D} (old : Broken D A G) (store : MapOn D) : Type 0 where
  pub items : (store.items ≡ old.before) ⊎ (store.items ≡ changed old.before old.batch)
  pub limit : store.limit ≡ old.limit
  pub failures : Ghosts.failures G store.disk ≡ Ghosts.failures G old.disk
  pub number : Ghosts.honest G → store.number ≡ number_in (current_root (Ghosts.state G old.disk).bytes) (Ghosts.state G old.disk).bytes

-- The store is still broken. If its cause is a failed call of the disk, the count of failures shows it; otherwise no
-- call failed.
pub record HasNotReopened {D A : Type 0} {G : Ghosts D} (old broken : Broken D A G) : Type 0 where
  pub same : IsStillBroken old broken
  pub later : Ghosts.failures G old.disk ≤ Ghosts.failures G broken.disk
  pub device : broken.cause ≡ broken_cause.Device → HasFailed (Ghosts.failures G old.disk) (Ghosts.failures G broken.disk)
  pub quiet : broken.cause ≢ broken_cause.Device → Ghosts.failures G broken.disk ≡ Ghosts.failures G old.disk
  pub strange : Ghosts.honest G → broken.cause ≢ broken_cause.Strange

-- The possible results of a reopening: a store of the map before or of the target, or one that is still broken.
abbrev pub ReopensTo : {D A : Type 0} {G : Ghosts D} → Broken D A G → End D A G → Type 0
ReopensTo old (finished.Stored store) = ⊥
ReopensTo old (finished.Unstarted store back cause) = ⊥
ReopensTo old (finished.Broken broken) = HasNotReopened old broken
ReopensTo old (finished.Reopened store) = HasReopened old store

abbrev pub RunsTo : {D A : Type 0} {G : Ghosts D} → Job D A G → End D A G → Type 0
RunsTo (job.Commit planned) end = CommitsTo planned.store planned.batch end
RunsTo (job.Reopen reopening) end = ReopensTo reopening.broken end

-- a commit after which no number for a root is left
abbrev pub IsAtLastNumber : {D A : Type 0} {G : Ghosts D} → Job D A G → Type 0
IsAtLastNumber (job.Commit planned) = 2 ^ 64 ≤ planned.store.number + 1
IsAtLastNumber (job.Reopen reopening) = ⊥

-- a commit that was not started, since the root has the last number
abbrev pub IsLastNumber : {D A : Type 0} {G : Ghosts D} → End D A G → Type 0
IsLastNumber (finished.Stored store) = ⊥
IsLastNumber (finished.Unstarted store back cause) = cause ≡ unstarted.Worn
IsLastNumber (finished.Broken broken) = ⊥
IsLastNumber (finished.Reopened store) = ⊥

-- Each possible crash image of the disk represents the map that the store holds, under its number; for a broken
-- store, the map before or the map after the batch.
abbrev pub EndStands : {D A : Type 0} {G : Ghosts D} → End D A G → Type 0
EndStands {D} {A} {G} (finished.Stored store) = IsOnDisk (Ghosts.state G) store
EndStands {D} {A} {G} (finished.Unstarted store batch cause) = IsOnDisk (Ghosts.state G) store
EndStands {D} {A} {G} (finished.Broken broken) = EachIsEither (Ghosts.state G broken.disk) broken.limit broken.before (changed broken.before broken.batch)
EndStands {D} {A} {G} (finished.Reopened store) = IsOnDisk (Ghosts.state G) store
