use Rattle.std.proofs.Common.{subst}
use Rattle.psu_exec.specs.Shown.{outcome_of}
use Rattle.psu_bench.specs.Callers.{Causes}
use Rattle.psu_bench.specs.Tries.{tried}
use Rattle.psu_threads.specs.Called.{SessionSeat}
use Rattle.psu_threads.proofs.shared_device.SharedDevice.try_unit.Goals as goal

pub returns-in-Some-clause-caused : goal.returns-in-Some-clause-caused
returns-in-Some-clause-caused g c =
    let tried_unit = c.try_unit-outcome in
    let caused = tried_unit.result.1 in
    (caused, rw c.others.ensures (subst (λ (z : SessionSeat). Causes g.D.Disk.honest z.seat (tried z.session c.args.how (outcome_of tried_unit.result.0)) caused tried_unit.new.self) c.self.view_is tried_unit.ensures.caused))

pub returns-in_default-clause-caused : goal.returns-in_default-clause-caused
returns-in_default-clause-caused g c =
    let tried_unit = c.try_unit-outcome in
    let caused = tried_unit.result.1 in
    (caused, subst (λ (z : SessionSeat). Causes g.D.Disk.honest z.seat (tried z.session c.args.how (outcome_of tried_unit.result.0)) caused tried_unit.new.self) c.self.view_is tried_unit.ensures.caused)
