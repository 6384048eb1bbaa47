use Rattle.std.proofs.Common.{◌≡◌, map, sym, subst}
use Rattle.psu_exec.specs.declared.service_states.Enabled.{Enabled}
use Rattle.psu_exec.specs.ServiceStates.{rqs_updated_by}
use Rattle.psu_exec.proofs.RqsUpdates.{by_same, same_enabled}
use Rattle.psu_exec.proofs.service_states.follow.Goals as goal

pub returns-then-old-new-2 : goal.returns-then-old-new-2
returns-then-old-new-2 c =
    let same = same_enabled c.args.old c.args.new c.if-old-new.true c.if-old-new-2.true in
    subst (λ (e : Enabled). c.args.service_states.now ≡ map (rqs_updated_by c.args.old e) c.args.service_states.now) same (sym (by_same c.args.old c.args.service_states.now))
