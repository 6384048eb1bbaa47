use Rattle.std.proofs.Common.{ℕ, ap, ap₂, slice_set, sym, ◌∙◌}
use Rattle.psu_exec.specs.Calls.{with_answer, with_service_states}
use Rattle.psu_exec.specs.Device.{State, service_state_of, with_device}
use Rattle.psu_exec.specs.ServiceStates.{rqs_updated, with_available}
use Rattle.psu_exec.specs.declared.service_states.ServiceState.{ServiceState}
use Rattle.psu_exec.proofs.RqsUpdates.{changed, followed_at}
use Rattle.psu_exec.proofs.Seen.{after_seen, device_is, seen}
use Rattle.psu_exec.proofs.exec.ExecOf.set_available.Goals as goal

pub returns : goal.returns
returns g c =
    let w = seen c.self.view_is in
    let session = c.args.session in
    let available = c.args.available in
    let state = c.service_state-service_state.ensures ∙ ap (λ (t : State). service_state_of t session) (sym (device_is c.self.view_is)) in
    let updated = c.rqs_updated.ensures ∙ ap₂ (λ (old new : ℕ). rqs_updated old new (with_available c.service_state-service_state.result available)) c.enabled-old.ensures c.enabled-new.ensures
    ∙ ap (changed w.device.volatile.instrument.status available) state in
    let made = ap₂ (λ (place : ℕ) (m : ServiceState). with_service_states w.device (slice_set w.device.volatile.service_states place m)) c.place.ensures.place updated in
    after_seen (λ (t : State). with_answer t session available) c.self.view_is (ap (with_device w) (made ∙ followed_at w.device session available))
