use Rattle.psu_run.proofs.Common.{[], arith, inl, refl, Some, Device, Halts}
use Rattle.psu_run.proofs.UnitEnds.{job_reopens}
use Rattle.psu_run.proofs.Going.{steps_as, steps_none}
use Rattle.psu_run.proofs.Walking.{job_begins}
use Rattle.psu_run.proofs.jobs.reopen.Goals as goal

pub returns-then-not-is_broken-clause-reopens : goal.returns-then-not-is_broken-clause-reopens
returns-then-not-is_broken-clause-reopens g c = steps_none _ (λ t. t) _ (λ p. inl refl)

pub returns-then-is_broken-clause-stops : goal.returns-then-is_broken-clause-stops
returns-then-is_broken-clause-stops g c =
    record { leads = steps_as (Halts g.D.Disk.honest (Some Device) []) (c.in_ok-run_next.ensures.job c.in-Job.is) (λ p q is. (job_begins is.1, tt)); own = inl refl; why = λ e before t. let leaves = c.in_ok-run_next.ensures.left c.in-Job.is before t in grind arith }

pub returns-then-is_broken-clause-failed : goal.returns-then-is_broken-clause-failed
returns-then-is_broken-clause-failed g c = λ e before t. let leaves = c.in_ok-run_next.ensures.left c.in-Job.is before t in grind arith

pub returns-clause-reopens : goal.returns-clause-reopens
returns-clause-reopens g c = job_reopens (grind arith) (c.in_ok-run_next.ensures.job c.in-Job.is)
