use Rattle.psu_run.proofs.Common.{[], arith, inl, inr, refl, Acts, Calls, Executed, OneCall, Later, Parked, Serves, outcome_of, passed}
use Rattle.psu_run.proofs.Going.{device_stops_then, steps_call, steps_then}
use Rattle.psu_run.proofs.UnitEnds.{late_full}
use Rattle.psu_run.proofs.acting.act.Goals as goal

pub returns-then-not-is_parked-clause-acts : goal.returns-then-not-is_parked-clause-acts
returns-then-not-is_parked-clause-acts g c = λ n.
    let request = c.args.request.now in let reply = outcome_of c.execute-outcome.result in
    steps_call (Executed 1 request reply) (Acts g.D.Disk.honest request reply) (grind arith) c.execute-outcome.ensures.idle_store (grind arith) (λ w. refl) (λ finished over e. cc) (λ p q call. (grind arith, inl call))

pub returns-then-not-is_parked-clause-late : goal.returns-then-not-is_parked-clause-late
returns-then-not-is_parked-clause-late g c = λ late.
    let request = c.args.request.now in
    steps_call (Executed 1 request Later) (λ p q. Calls g.D.Disk.honest p (Executed 1 request Later) q) (grind arith) c.execute-outcome.ensures.idle_store (grind arith) (λ w. refl) (λ finished over e. cc) (λ p q call. call)

pub returns-in_err-outcome-clause-stops : goal.returns-in_err-outcome-clause-stops
returns-in_err-outcome-clause-stops g c =
    let request = c.args.request.now in
    passed c.from_residual.result c.in_err-outcome.field-0.0 _ c.from_residual.ensures.1
    (device_stops_then _
    (steps_call (Executed 1 request Parked) (λ p q. Calls g.D.Disk.honest p (Executed 1 request Parked) q) (grind arith) c.execute-outcome.ensures.idle_store (grind arith) (λ w. refl) (λ finished over e. cc) (λ p q call. call))
    c.in_err-outcome.ensures.stops (λ p m q call b. (OneCall (Executed 1 request Parked) m [] refl call refl b.0, b.1)))

pub returns-clause-acts : goal.returns-clause-acts
returns-clause-acts g c = λ n.
    let request = c.args.request.now in
    steps_then (Acts g.D.Disk.honest request (outcome_of c.in_ok-outcome.outcome))
    (steps_call (Executed 1 request Parked) (λ p q. Calls g.D.Disk.honest p (Executed 1 request Parked) q) (grind arith) c.execute-outcome.ensures.idle_store (grind arith) (λ w. refl) (λ finished over e. cc) (λ p q call. call))
    c.in_ok-outcome.ensures.ends (λ p m q call wait. (c.in_ok-outcome.ensures.ended, inr (m, wait.0, call, wait.1, wait.2)))

pub returns-then-not-is_parked-clause-room : goal.returns-then-not-is_parked-clause-room
returns-then-not-is_parked-clause-room g c = λ late.
    let old = c.args.powered.now in
    let serves : Serves old.exec.device (Executed 1 c.args.request.now (outcome_of c.execute-outcome.result)) c.execute-outcome.new.self.device = grind arith in
    late_full old.exec.device c.args.request.now old.free (grind arith)
