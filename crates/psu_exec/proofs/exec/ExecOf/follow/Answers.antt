use Rattle.std.proofs.Common.{map, sym, ap, ◌∙◌}
use Rattle.psu_exec.specs.declared.service_states.Enabled.{Enabled}
use Rattle.psu_exec.specs.Device.{State, followed, with_device}
use Rattle.psu_exec.specs.ServiceStates.{enabled_of, rqs_updated_by}
use Rattle.psu_exec.proofs.RqsUpdates.{followed_by}
use Rattle.psu_exec.proofs.Seen.{after_seen, device_is, seen}
use Rattle.psu_exec.proofs.exec.ExecOf.follow.Goals as goal

pub returns : goal.returns
returns g c before e same =
    let w = seen c.self.view_is in
    let back = sym (device_is c.self.view_is) in
    let new = c.enabled-new.ensures ∙ ap (λ (t : State). enabled_of t.volatile.instrument.status) back in
    let service_states = c.follow.ensures ∙ ap (λ (x : Enabled). map (rqs_updated_by c.args.old x) c.self.inside.service_states) new in
    after_seen (followed before) c.self.view_is
    (ap (with_device w) (followed_by before w.device c.args.old c.follow.new.service_states e (same ∙ ap (λ (t : State). t.volatile.service_states) back) service_states))
