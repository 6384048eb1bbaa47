use Rattle.std.proofs.Common.{◌≡◌, ◌∙◌, ap, arith, inl, sym, true}
use Rattle.psu_exec.specs.Calls.{free_from, with_session}
use Rattle.psu_exec.specs.Device.{State}
use Rattle.psu_exec.specs.ServiceStates.{opened_service_state}
use Rattle.psu_exec.proofs.Opening.{opens_the_least}
use Rattle.psu_exec.proofs.Seen.{device_is}
use Rattle.psu_exec.proofs.exec.ExecOf.open_session.Goals as goal

pub returns-in-Some-clause-open : goal.returns-in-Some-clause-open
returns-in-Some-clause-open g c =
    let s = c.args.self.now.device in
    let least = sym c.in-Some.is ∙ c.least_free.ensures ∙ ap (λ (t : State). free_from 1 t.volatile.open_now) (device_is c.self.view_is) in
    let state : c.rqs_updated-service_state.result ≡ opened_service_state s.volatile.instrument.status
    = let call = c.rqs_updated-service_state.ensures in let enabled = c.enabled-enabled.ensures in let initial = c.initial_service_state.ensures in grind arith in
    let opens = device_is c.set_session.ensures ∙ ap (with_session s c.in-Some.session true) state in
    ((opens_the_least s c.set_session.new.self.device).0 c.in-Some.session (inl (least, opens))).now_open
