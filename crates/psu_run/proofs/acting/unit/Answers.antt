use Rattle.psu_run.proofs.Common.{[], ◌∷◌, arith, inl, inr, refl, Executed, IsUnit, Later, outcome_of, passed, Device, Halts, Some}
use Rattle.psu_run.proofs.Going.{device_stops_then, steps_as, steps_then}
use Rattle.psu_run.proofs.UnitEnds.{late_begins, steps_late}
use Rattle.psu_run.proofs.Walking.{begins_behind, begins_call, begins_none}
use Rattle.psu_run.proofs.acting.unit.Goals as goal

pub returns-then-not-is_later-clause-runs : goal.returns-then-not-is_later-clause-runs
returns-then-not-is_later-clause-runs g c = steps_as _ (c.in_ok-outcome.ensures.acts (grind arith)) (λ p q acts. inl acts)

pub returns-in_err-flush-clause-stops : goal.returns-in_err-flush-clause-stops
returns-in_err-flush-clause-stops g c =
    passed c.from_residual-in_err-flush.result c.in_err-flush.field-0.0 _ c.from_residual-in_err-flush.ensures.1
    (device_stops_then _ (c.in_ok-outcome.ensures.late (c.is_later.ensures.0 c.if-not-is_later.false)) c.in_err-flush.ensures.stops
    (λ p m q call b. (begins_none _ (begins_behind [] (begins_call (Executed 1 c.args.request.now Later) [] refl call refl) b.0), b.1)))

pub returns-in_err-outcome-2-clause-stops : goal.returns-in_err-outcome-2-clause-stops
returns-in_err-outcome-2-clause-stops g c =
    let late = steps_late c.args.request.now (c.in_ok-outcome.ensures.late (c.is_later.ensures.0 c.if-not-is_later.false)) c.in_ok-flush.ensures.flushes in
    passed c.from_residual-in_err-outcome-2.result c.in_err-outcome-2.field-0.0 _ c.from_residual-in_err-outcome-2.ensures.1
    (device_stops_then _ late c.in_err-outcome-2.ensures.stops (λ p m q late b. (begins_behind _ (late_begins _ late) b.0, b.1)))

pub returns-then-is_later-clause-stops : goal.returns-then-is_later-clause-stops
returns-then-is_later-clause-stops g c =
    let request = c.args.request.now in
    let late = steps_late request (c.in_ok-outcome.ensures.late (c.is_later.ensures.0 c.if-not-is_later.false)) c.in_ok-flush.ensures.flushes in
    let still = c.is_later-2.ensures.0 c.if-is_later.true in let again = c.in_ok-outcome-2.ensures.late still in
    record {
      leads = steps_then (Halts g.D.Disk.honest (Some Device) (request ∷ [])) late again (λ p m q late call. (begins_none _ (begins_behind [] (late_begins _ late) (begins_call (Executed 1 request Later) [] refl call refl)), tt));
      own = inl refl;
      why = λ e before t.
          let room = c.in_ok-outcome-2.ensures.room still in
          let left = c.in_ok-flush.ensures.clean before ((c.in_ok-outcome.ensures.late (c.is_later.ensures.0 c.if-not-is_later.false)).tied before t) in let after = again.later in
          grind arith;
    }

pub returns-clause-runs : goal.returns-clause-runs
returns-clause-runs g c =
    let late = steps_late c.args.request.now (c.in_ok-outcome.ensures.late (c.is_later.ensures.0 c.if-not-is_later.false)) c.in_ok-flush.ensures.flushes in
    steps_then (IsUnit g.D.Disk.honest c.args.request.now (outcome_of c.in_ok-outcome-2.outcome)) late (c.in_ok-outcome-2.ensures.acts (grind arith)) (λ p m q late acts. inr (late.0, m, late.1, late.2, acts))
