use Rattle.std.proofs.Common.{◌<◌, length, arith}
use Rattle.psu_exec.specs.ServiceStates.{rqs_updated_by}
use Rattle.psu_exec.proofs.Mapped.{mapped_more}
use Rattle.psu_exec.proofs.service_states.follow_each.Goals as goal

pub loop-i-preserved : goal.loop-i-preserved
loop-i-preserved c =
    let within : c.loop-i.i < length c.args.service_states.now = omega arith in
    mapped_more (rqs_updated_by c.args.old c.args.new) c.args.service_states.now c.loop-i.service_states c.loop-i.i _ _ within c.loop-i.invariant c.rqs_updated_by.ensures
