use Rattle.std.proofs.Common.{◌≡◌, ◌∙◌, ℕ, Bool, Option, List, [], ◌∷◌, ap, refl, subst, sym, arith, flat_map}
use Rattle.psu_hislip.specs.Action.{Act, acts}
use Rattle.psu_hislip.specs.Core.{Core, outcome_of}
use Rattle.psu_hislip.specs.Stream.{received}
use Rattle.psu_hislip.specs.declared.action.Action.{Action}
use Rattle.psu_session.specs.Numbers.{clears, number_on, parameter}
use Rattle.psu_session.specs.Events.{Came}
use Rattle.psu_session.specs.Step.{Each, IsMessageReceived, arrived, release_in, works_in}
use Rattle.psu_session.specs.Shown.{state_of}
use Rattle.psu_session.specs.State.{SessionState, added, numbered, settled, with_core}
use Rattle.psu_session.proofs.Serving.{on_ok}
use Rattle.psu_messages.proofs.Going.{passed_on}
use Rattle.psu_session.specs.Stopping.{IsQueueCause, StopsIn}
use Rattle.psu_session.specs.declared.phase.EndCause.{EndCause}
use Rattle.psu_session.specs.declared.phase.EndCause.TheVariants.{Memory}
use Rattle.psu_session.proofs.Stopping.{all_called, cause_later, not_passed, on_cause, passed}
use Rattle.psu_session.proofs.parts.Parts.receive_message.Goals as goal

pub returns-clause-done : goal.returns-clause-done
returns-clause-done g c =
    let message = received c.args.message in
    let outcome = outcome_of c.args.self.now.core c.args.side message in
    let requested = acts c.in_ok-actions.actions.items in
    let is : requested ≡ outcome.actions = c.in_ok-actions.ensures.done in
    let did = c.in_ok-act_all.ensures.done in
    let s = state_of c.args.self.now in
    let all : c.clears-all.result ≡ clears requested = c.clears-all.ensures ∙ ap (λ (xs : List (Action _)). clears (acts xs)) c.as_slice.ensures.value in
    let begun : state_of c.act_all.new.self ≡ added (with_core s outcome.core) (flat_map works_in requested) (flat_map (release_in c.args.now (parameter message)) requested) did.done
    = did.then ∙ ap (λ (z : Core). added (with_core s z) (flat_map works_in requested) (flat_map (release_in c.args.now c.parameter-id.result) requested) did.done) c.in_ok-actions.ensures.core
    ∙ ap (λ (z : ℕ). added (with_core s outcome.core) (flat_map works_in requested) (flat_map (release_in c.args.now z) requested) did.done) c.parameter-id.ensures in
    let counted : state_of c.count.new.self ≡ numbered (added (with_core s outcome.core) (flat_map works_in requested) (flat_map (release_in c.args.now (parameter message)) requested) did.done) (number_on c.args.side message)
    = c.count.ensures.done ∙ ap (λ (z : Option ℕ). numbered (state_of c.act_all.new.self) z) c.number_on-number.ensures ∙ ap (λ (z : SessionState). numbered z (number_on c.args.side message)) begun in
    on_ok c.settle.result (λ last. record {
      done = Came c.args.side message ∷ did.done;
      is = record {
        immediate = did.done;
        each = subst (λ (z : List Act). Each s.lock_waits z did.done) is did.are;
        are = refl;
        then = last ∙ ap (λ (z : SessionState). settled c.clears-all.result c.args.now z) counted
            ∙ ap (λ (z : Bool). settled z c.args.now (numbered (added (with_core s outcome.core) (flat_map works_in requested) (flat_map (release_in c.args.now (parameter message)) requested) did.done) (number_on c.args.side message))) all
            ∙ ap (λ (z : List Act). arrived c.args.now c.args.side message z (with_core s outcome.core) did.done) is;
      };
      runs = did.runs;
    }) c.settle.ensures.done

pub returns-in_err-actions-clause-stopped : goal.returns-in_err-actions-clause-stopped
returns-in_err-actions-clause-stopped g c =
    passed_on c.from_residual.result Memory (λ (cause : EndCause). StopsIn g.D.Device.does (IsMessageReceived c.args.now c.args.side (received c.args.message)) cause (state_of c.args.self.now) c.args.device.now c.args.device.now) c.from_residual.ensures.1
    (not_passed g.D.Device.does c.args.now c.args.side (received c.args.message) (state_of c.args.self.now) c.args.device.now)

pub returns-in_err-act_all-clause-stopped : goal.returns-in_err-act_all-clause-stopped
returns-in_err-act_all-clause-stopped g c =
    let s = state_of c.args.self.now in
    let message = received c.args.message in
    let requested = acts c.in_ok-actions.actions.items in
    let cause = c.in_err-act_all.field-0.0 in
    let queued = subst (λ (z : ℕ). IsQueueCause cause (flat_map works_in requested) (flat_map (release_in c.args.now z) requested) (with_core s c.on.new.self)) c.parameter-id.ensures c.in_err-act_all.ensures.cause in
    let asks = flat_map (release_in c.args.now (parameter message)) requested in
    passed_on c.from_residual-in_err-act_all.result cause (λ (cause : EndCause). StopsIn g.D.Device.does (IsMessageReceived c.args.now c.args.side message) cause s c.args.device.now c.act_all.new.device) c.from_residual-in_err-act_all.ensures.1
    (passed g.D.Device.does c.args.now c.args.side cause message s requested c.args.device.now c.act_all.new.device c.in_ok-actions.ensures.done c.in_err-act_all.ensures.stopped
    (cause_later cause (added (with_core s c.on.new.self) (flat_map works_in requested) asks []) (added s (flat_map works_in requested) asks []) (omega arith, omega arith) queued))

pub returns-clause-stopped : goal.returns-clause-stopped
returns-clause-stopped g c =
    let s = state_of c.args.self.now in
    let message = received c.args.message in
    let requested = acts c.in_ok-actions.actions.items in
    let did = c.in_ok-act_all.ensures.done in
    on_cause c.settle.result (λ cause is. subst (λ (z : EndCause). StopsIn g.D.Device.does (IsMessageReceived c.args.now c.args.side message) z s c.args.device.now c.act_all.new.device) (sym is)
    (passed g.D.Device.does c.args.now c.args.side Memory message s requested c.args.device.now c.act_all.new.device c.in_ok-actions.ensures.done
    (all_called g.D.Device.does (Each s.lock_waits requested) c.args.device.now c.act_all.new.device did.done did.are did.runs) tt)) c.settle.ensures.cause
