use Rattle.psu_run.proofs.Common.{◌≤◌, ◌≡◌, ℕ, suc, ◌+◌, ◌-◌, [], rules, arith, refl, sym, inl, subst, IsFlush, IsTied, Jobs, NoCall, failures_of, passed}
use Rattle.psu_run.proofs.UnitEnds.{IsFlushAfter, IsFlushed, one_more}
use Rattle.psu_run.proofs.Going.{device_stops_then, steps_as, steps_none, steps_then}
use Rattle.psu_run.proofs.Walking.{begins_behind}
use Rattle.psu_run.proofs.jobs.flush.Goals as goal

pub loop-init : goal.loop-init
loop-init g c =
    let jobs = steps_none c.args.exec.now (λ t. t) (IsFlushAfter g.D.Disk.honest 4) (λ p. (NoCall refl, λ r jobs. jobs)) in let idle = c.requires.idle in search rules

pub returns-in_err-run_next-clause-stops : goal.returns-in_err-run_next-clause-stops
returns-in_err-run_next-clause-stops g c =
    passed c.from_residual.result c.in_err-run_next.field-0.0 _ c.from_residual.ensures.1
    (device_stops_then _ c.loop.invariant.jobs c.in_err-run_next.ensures.stops (λ p m q a b. (begins_behind [] a.0 b.0, b.1)))

pub returns-in-Nothing-clause-flushes : goal.returns-in-Nothing-clause-flushes
returns-in-Nothing-clause-flushes g c =
    let some : 4 - c.loop.counter ≡ suc (4 - (c.loop.counter + 1)) = omega (arith, c.loop-test.true) in
    steps_then (IsFlush g.D.Disk.honest) c.loop.invariant.jobs (c.in_ok-run_next.ensures.take c.in-Nothing.is) (λ p m q a none. a.1 q (subst (λ (n : ℕ). Jobs g.D.Disk.honest n m q) (sym some) (inl none)))

pub loop-preserved : goal.loop-preserved
loop-preserved g c =
    let some : 4 - c.loop.counter ≡ suc (4 - (c.loop.counter + 1)) = omega (arith, c.loop-test.true) in
    let job = c.in_ok-run_next.ensures.job c.in-Job.is in let count : c.loop.counter + 1 ≤ 4 = omega (arith, c.loop-test.true) in
    let jobs = one_more {first = c.args.exec.now} {old = c.loop.exec} {new = c.run_next.new.exec} (4 - (c.loop.counter + 1)) (rw (← some) c.loop.invariant.jobs) job in
    let flushed : (before : ℕ) → IsTied before c.args.exec.now → IsFlushed before (failures_of c.run_next.new.exec) (c.loop.counter + 1) c.run_next.new.exec.device.flush = λ before t.
    let was = c.loop.invariant.flushed before t in
    let tied = c.loop.invariant.jobs.tied before t in
    let leaves = c.in_ok-run_next.ensures.left c.in-Job.is before tied in let later = job.later in
    let work = c.in_ok-run_next.ensures.some c.in-Job.is in grind arith in
    search rules

pub returns-clause-flushes : goal.returns-clause-flushes
returns-clause-flushes g c =
    let none : 4 - c.loop.counter ≡ 0 = omega (arith, c.loop-test.false) in
    steps_as (IsFlush g.D.Disk.honest) c.loop.invariant.jobs (λ p q a. a.1 q (subst (λ (n : ℕ). Jobs g.D.Disk.honest n q q) (sym none) refl))

pub returns-clause-clean : goal.returns-clause-clean
returns-clause-clean g c = λ before t. let flushed = c.loop.invariant.flushed before t in let all = c.loop-test.false in grind arith
