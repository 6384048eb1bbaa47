use Rattle.std.proofs.Common.{sym, subst}
use Rattle.psu_disk.specs.Disk.{LeavesOnly}
use Rattle.psu_items.specs.Image.{IsEither}
use Rattle.psu_exec.specs.Jobs.{IsAtLastNumber, IsLastNumber, finished_disk, job_data, job_disk}
use Rattle.psu_exec.proofs.job.Job.run.Goals as goal

pub returns-in-Commit-clause-last : goal.returns-in-Commit-clause-last
returns-in-Commit-clause-last g c = subst (λ job. IsAtLastNumber job → IsLastNumber c.run.result.end) (sym c.in-Commit.is) c.run.ensures.last

pub returns-in-Commit-clause-time : goal.returns-in-Commit-clause-time
returns-in-Commit-clause-time g c =
    subst (λ job. g.D.Disk.honest → g.D.Disk.records → LeavesOnly g.D.Disk.moment g.D.Disk.left_since (job_disk job) (finished_disk c.run.result.end) (IsEither (job_data job).limit (job_data job).before (job_data job).target)) (sym c.in-Commit.is) c.run.ensures.time
