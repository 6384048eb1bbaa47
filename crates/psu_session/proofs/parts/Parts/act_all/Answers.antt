use Rattle.std.proofs.Common.{◌≡◌, ◌∙◌, List, [], ◌∷◌, arith, refl, subst, sym, flat_map}
use Rattle.std.proofs.lemmas.Grind.{common_steps}
use Rattle.psu_hislip.specs.Action.{act, acts}
use Rattle.psu_hislip.specs.declared.action.Action.{Action}
use Rattle.psu_session.specs.Step.{Each, release_in, works_in}
use Rattle.psu_session.specs.Shown.{state_of}
use Rattle.psu_session.specs.State.{SessionState}
use Rattle.psu_session.proofs.Serving.{DoneSoFar, begins, ends, steps}
use Rattle.psu_messages.proofs.Going.{passed_on}
use Rattle.psu_session.specs.Stopping.{IsQueueCause}
use Rattle.psu_session.specs.declared.phase.EndCause.{EndCause}
use Rattle.psu_session.proofs.Stopping.{if_err, not_called, queue_cause, stops_at}
use Rattle.psu_session.proofs.parts.Parts.act_all.Goals as goal

pub loop-action-init : goal.loop-action-init
loop-action-init g c =
    let does = g.D.Device.does in
    let all = acts c.args.actions.items in
    let asks = release_in c.args.now c.args.number in
    let s = state_of c.args.self.now in
    record {
      done = subst (λ (left : List (Action _)). DoneSoFar does (Each s.lock_waits all) (Each s.lock_waits (acts left)) (flat_map works_in all) (flat_map works_in (acts left)) (flat_map asks all) (flat_map asks (acts left)) s c.args.device.now s c.args.device.now) (sym c.into_iter-rest.ensures.into_iter_gives.0)
          (begins does (Each s.lock_waits all) (flat_map works_in all) (flat_map asks all) s c.args.device.now);
      capacity = omega arith;
    }

pub loop-action-preserved : goal.loop-action-preserved
loop-action-preserved g c =
    let does = g.D.Device.does in
    let all = acts c.args.actions.items in
    let asks = release_in c.args.now c.args.number in
    let s = state_of c.args.self.now in
    let here = subst (λ (left : List (Action _)). DoneSoFar does (Each s.lock_waits all) (Each (state_of c.loop-action.self).lock_waits (acts left)) (flat_map works_in all) (flat_map works_in (acts left)) (flat_map asks all) (flat_map asks (acts left)) s c.args.device.now (state_of c.loop-action.self) c.loop-action.device)
    c.in-Some.ensures.steps c.loop-action.invariant.done in
    let left = acts (c.in-Some.action ∷ c.next.new.self) in
    let room = subst (λ (u : SessionState). DoneSoFar does (Each s.lock_waits all) (Each u.lock_waits left) (flat_map works_in all) (flat_map works_in left) (flat_map asks all) (flat_map asks left) s c.args.device.now u c.loop-action.device)
    (sym c.make_room.ensures.same) here in
    record {
      done = steps does asks (Each s.lock_waits all) (flat_map works_in all) (flat_map asks all) (act c.in-Some.action) (acts c.next.new.self) s c.args.device.now (state_of c.make_room.new.self) c.loop-action.device (state_of c.act.new.self)
          c.act.new.device room c.in_ok-act.ensures.done;
      capacity = omega (arith, c.loop-action.invariant.capacity, c.make_room.ensures.capacity, c.act.ensures.capacity);
    }

pub returns-clause-done : goal.returns-clause-done
returns-clause-done g c =
    let does = g.D.Device.does in
    let all = acts c.args.actions.items in
    let asks = release_in c.args.now c.args.number in
    let s = state_of c.args.self.now in
    let none : c.loop-action.rest ≡ [] = grind (arith, common_steps, c.in_default.ensures.steps, c.in_default.is, c.in_default.not-Some) in
    ends does (Each s.lock_waits all) (flat_map works_in all) (flat_map asks all) s c.args.device.now (state_of c.loop-action.self) c.loop-action.device
    (subst (λ (left : List (Action _)). DoneSoFar does (Each s.lock_waits all) (Each (state_of c.loop-action.self).lock_waits (acts left)) (flat_map works_in all) (flat_map works_in (acts left)) (flat_map asks all) (flat_map asks (acts left)) s c.args.device.now (state_of c.loop-action.self) c.loop-action.device) none
    c.loop-action.invariant.done)

pub returns-in_err-make_room-clause-stopped : goal.returns-in_err-make_room-clause-stopped
returns-in_err-make_room-clause-stopped g c =
    let does = g.D.Device.does in
    let all = acts c.args.actions.items in
    let asks = release_in c.args.now c.args.number in
    let s = state_of c.args.self.now in
    let here = subst (λ (left : List (Action _)). DoneSoFar does (Each s.lock_waits all) (Each (state_of c.loop-action.self).lock_waits (acts left)) (flat_map works_in all) (flat_map works_in (acts left)) (flat_map asks all) (flat_map asks (acts left)) s c.args.device.now (state_of c.loop-action.self) c.loop-action.device)
    c.in-Some.ensures.steps c.loop-action.invariant.done in
    let left = acts (c.in-Some.action ∷ c.next.new.self) in
    let one = act c.in-Some.action in
    if_err c.from_residual.result
    (stops_at does (Each s.lock_waits all) (flat_map works_in all) (flat_map asks all) one (acts c.next.new.self) (flat_map works_in left) (flat_map asks left) s c.args.device.now (state_of c.loop-action.self) c.loop-action.device c.loop-action.device here
    (not_called does (state_of c.loop-action.self).lock_waits one c.loop-action.device c.loop-action.device refl))

pub returns-in_err-act-clause-stopped : goal.returns-in_err-act-clause-stopped
returns-in_err-act-clause-stopped g c =
    let does = g.D.Device.does in
    let all = acts c.args.actions.items in
    let asks = release_in c.args.now c.args.number in
    let s = state_of c.args.self.now in
    let here = subst (λ (left : List (Action _)). DoneSoFar does (Each s.lock_waits all) (Each (state_of c.loop-action.self).lock_waits (acts left)) (flat_map works_in all) (flat_map works_in (acts left)) (flat_map asks all) (flat_map asks (acts left)) s c.args.device.now (state_of c.loop-action.self) c.loop-action.device)
    c.in-Some.ensures.steps c.loop-action.invariant.done in
    let left = acts (c.in-Some.action ∷ c.next.new.self) in
    let one = act c.in-Some.action in
    if_err c.from_residual-in_err-act.result
    (stops_at does (Each s.lock_waits all) (flat_map works_in all) (flat_map asks all) one (acts c.next.new.self) (flat_map works_in left) (flat_map asks left) s c.args.device.now (state_of c.loop-action.self) c.loop-action.device c.act.new.device here
    (not_called does (state_of c.loop-action.self).lock_waits one c.loop-action.device c.act.new.device c.in_err-act.ensures.uncalled))

pub returns-clause-capacity : goal.returns-clause-capacity
returns-clause-capacity g c = c.loop-action.invariant.capacity

pub returns-in_err-make_room-clause-capacity : goal.returns-in_err-make_room-clause-capacity
returns-in_err-make_room-clause-capacity g c = omega (arith, c.loop-action.invariant.capacity, c.make_room.ensures.capacity)

pub returns-in_err-act-clause-capacity : goal.returns-in_err-act-clause-capacity
returns-in_err-act-clause-capacity g c = omega (arith, c.loop-action.invariant.capacity, c.make_room.ensures.capacity, c.act.ensures.capacity)

pub returns-in_err-act-clause-cause : goal.returns-in_err-act-clause-cause
returns-in_err-act-clause-cause g c =
    let does = g.D.Device.does in
    let all = acts c.args.actions.items in
    let asks = release_in c.args.now c.args.number in
    let s = state_of c.args.self.now in
    let here = subst (λ (left : List (Action _)). DoneSoFar does (Each s.lock_waits all) (Each (state_of c.loop-action.self).lock_waits (acts left)) (flat_map works_in all) (flat_map works_in (acts left)) (flat_map asks all) (flat_map asks (acts left)) s c.args.device.now (state_of c.loop-action.self) c.loop-action.device)
    c.in-Some.ensures.steps c.loop-action.invariant.done in
    let one = act c.in-Some.action in
    let rest = acts c.next.new.self in
    passed_on c.from_residual-in_err-act.result c.in_err-act.field-0.0 (λ (cause : EndCause). IsQueueCause cause (flat_map works_in all) (flat_map asks all) s) c.from_residual-in_err-act.ensures.1
    (queue_cause c.in_err-act.field-0.0 s (state_of c.make_room.new.self) here.given (works_in one) (flat_map works_in rest) (flat_map works_in all) here.released (asks one) (flat_map asks rest) (flat_map asks all) here.done
    (c.make_room.ensures.same ∙ here.then) here.all_works here.all_requested c.in_err-act.ensures.cause)
