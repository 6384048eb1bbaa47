use Rattle.psu_run.proofs.Common.{[], ◌≡◌, refl, ◌≢◌, Some, arith, inl, inr, GaveBack, Halts, HasFailed, InCall, IsJob, Job, JobKind, MemoryRefused, Nothing, OneCall, StoreBroken, Took, fault_of, job_data, job_disk}
use Rattle.psu_exec.specs.Calls.{Memory as NoMemory}
use Rattle.psu_run.proofs.SessionOne.{job_free}
use Rattle.psu_run.proofs.Going.{failures_is, steps_as}
use Rattle.psu_run.proofs.UnitEnds.{steps_job, steps_take}
use Rattle.psu_run.proofs.Walking.{begins_call}
use Rattle.psu_run.specs.declared.run_cause.RunCause.TheVariants.{Memory}
use Rattle.psu_run.proofs.jobs.run_next.Goals as goal

pub returns-in-Some-clause-stops : goal.returns-in-Some-clause-stops
returns-in-Some-clause-stops g c =
    let r = c.in-Some.ensures in record {
      leads = steps_job _ c.take.new.exec c.run_job.new.exec c.in-Ok.job r.disk.0 r.run.0 r.run.1 (Halts g.D.Disk.honest (Some (Memory c.in-Some.sign)) []) c.in-Ok.ensures.step c.in-Ok.ensures.job r.run.2 r.disk.1 (λ h. r.run.6 h r.disk.0 r.disk.1) r.disk.2 r.disk.3 r.disk.4 r.breaks
          (λ p out q take give. (OneCall (Took (Job (job_data c.in-Ok.job))) out [] tt take refl (begins_call (GaveBack r.run.0 (Some r.run.1)) [] tt give refl), InCall (GaveBack r.run.0 (Some r.run.1)) give r.run.3));
      own = inr (inl tt);
      why = λ e. cc;
    }

pub returns-in-Some-clause-free : goal.returns-in-Some-clause-free
returns-in-Some-clause-free g c =
    let run = c.in-Some.ensures.run in job_free c.args.exec.now.device c.take.new.exec.device c.run_job.new.exec.device (job_data c.in-Ok.job) run.0 run.1 c.in-Ok.ensures.step run.2

pub returns-in-Err-None-clause-take : goal.returns-in-Err-None-clause-take
returns-in-Err-None-clause-take g c = λ e. steps_take Nothing (c.in-Err-None.ensures.none c.in-Err-None.field-0-is) c.in-Err-None.ensures.idle_store

pub returns-in-Err-Some-clause-stops : goal.returns-in-Err-Some-clause-stops
returns-in-Err-Some-clause-stops g c =
    record {
      leads = steps_as (Halts g.D.Disk.honest (Some (Memory c.in-Err-Some.sign)) []) (steps_take NoMemory (c.in-Err-Some.ensures.refused (λ e. cc)) c.in-Err-Some.ensures.idle_store) (λ p q call. (begins_call (Took NoMemory) [] tt call refl, InCall (Took NoMemory) call tt));
      own = inr (inl tt);
      why = λ e. cc;
    }

pub returns-in-None-clause-job : goal.returns-in-None-clause-job
returns-in-None-clause-job g c = λ e.
    let r = c.in-None.ensures in
    steps_job _ c.take.new.exec c.run_job.new.exec c.in-Ok.job r.disk.0 r.run.0 r.run.1 (λ p q. (kind : JobKind) × IsJob g.D.Disk.honest kind p q) c.in-Ok.ensures.step c.in-Ok.ensures.job r.run.2 r.disk.1 (λ h. r.run.6 h r.disk.0 r.disk.1) r.disk.2 r.disk.3 r.disk.4 r.breaks
    (λ p out q take give. ((job_data c.in-Ok.job).kind, (job_data c.in-Ok.job, r.run.0, r.run.1, out, take, give, refl, r.run.5, r.run.4)))

pub returns-in-None-clause-free : goal.returns-in-None-clause-free
returns-in-None-clause-free g c =
    let run = c.in-None.ensures.run in job_free c.args.exec.now.device c.take.new.exec.device c.run_job.new.exec.device (job_data c.in-Ok.job) run.0 run.1 c.in-Ok.ensures.step run.2

pub returns-in-None-clause-left : goal.returns-in-None-clause-left
returns-in-None-clause-left g c = λ e before t.
    let run = c.in-None.ensures.run in let give = run.2 in let given = c.in-Ok.ensures.step in let own = run.5 in let breaks = c.in-None.ensures.breaks in
    let disk = c.in-None.ensures.disk in let now = failures_is c.run_job.new.exec disk.0 disk.1 in let later = disk.2 in
    let broke : g.D.Disk.honest → fault_of run.0 ≡ Some StoreBroken → HasFailed (g.D.Disk.failures (job_disk c.in-Ok.job)) (g.D.Disk.failures disk.0) = λ h. (run.6 h disk.0 disk.1).1 in
    let long : fault_of run.0 ≢ Some MemoryRefused = run.4 in
    grind arith
