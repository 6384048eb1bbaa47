-- A job with the result of its run.
use Rattle.psu_disk.specs.Disk.{LeavesOnly}
use Rattle.psu_disk.specs.declared.disk.Disk.{Ghosts}
use Rattle.psu_items.specs.Image.{IsEither}
use Rattle.psu_exec.specs.Jobs.{finished_disk, job_data, job_disk}
use Rattle.psu_exec.specs.declared.job.Job.{Job}
use Rattle.psu_exec.specs.declared.job.End.{End as EndOf}

-- A job that was taken, and the result that its run has, or will have: what `Job::run` states of the moments since it
-- began.
pub record JobRun (D A : Type 0) (G : Ghosts D) : Type 0 where
  pub job : Job D A G
  pub finished : EndOf D A G
  pub time : Ghosts.honest G → Ghosts.records G
      → LeavesOnly (Ghosts.moment G) (Ghosts.left_since G) (job_disk job) (finished_disk finished) (IsEither (job_data job).limit (job_data job).before (job_data job).target)
