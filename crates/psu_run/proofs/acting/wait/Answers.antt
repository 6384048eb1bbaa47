use Rattle.psu_run.proofs.Common.{[], arith, inl, refl, Serves, Settled, outcome_of, Device, Halts, Some}
use Rattle.psu_run.proofs.Going.{steps_as}
use Rattle.psu_run.proofs.UnitEnds.{steps_wait, device_stops_cleared}
use Rattle.psu_run.proofs.Walking.{begins_behind, begins_call, flush_begins}
use Rattle.psu_run.proofs.acting.wait.Goals as goal

pub returns-in-Err-clause-stops : goal.returns-in-Err-clause-stops
returns-in-Err-clause-stops g c = device_stops_cleared c.in-Err.cause c.in-Err.ensures.stops (grind arith) c.clear.ensures.idle_store

pub returns-then-is_final-clause-ends : goal.returns-then-is_final-clause-ends
returns-then-is_final-clause-ends g c = steps_wait (outcome_of c.settle-outcome.result) c.in-Ok.ensures.flushes (grind arith) c.settle-outcome.ensures.idle_store

pub returns-clause-stops : goal.returns-clause-stops
returns-clause-stops g c =
    let reply = outcome_of c.settle-outcome.result in
    let serves : Serves c.flush.new.exec.device (Settled 1 reply) c.settle-outcome.new.self.device = grind arith in
    let waits = steps_wait reply c.in-Ok.ensures.flushes serves c.settle-outcome.ensures.idle_store in
    device_stops_cleared {mid = c.settle-outcome.new.self} Device (record {
      leads = steps_as (Halts g.D.Disk.honest (Some Device) []) waits (λ p q w. (begins_behind [] (flush_begins w.1) (begins_call (Settled 1 reply) [] refl w.2 refl), tt));
      own = inl refl;
      why = λ e before t. let left = c.in-Ok.ensures.clean before t in grind arith;
    }) (grind arith) c.clear-2.ensures.idle_store
