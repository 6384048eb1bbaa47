use Rattle.std.proofs.Common.{◌≡◌, List, [], arith, map, subst}
use Rattle.std.proofs.lemmas.Grind.{common_steps}
use Rattle.psu_hislip.specs.Stream.{received}
use Rattle.psu_hislip.specs.declared.message.Message.{Message}
use Rattle.psu_session.specs.Shown.{state_of}
use Rattle.psu_session.proofs.ReceivedMessages.{Receiving, begins, received_all, receives}
use Rattle.psu_messages.proofs.Going.{passed_on}
use Rattle.psu_session.specs.Step.{EachReceived}
use Rattle.psu_session.specs.Stopping.{StopsIn}
use Rattle.psu_session.specs.declared.phase.EndCause.{EndCause}
use Rattle.psu_session.proofs.Stopping.{message_stops}
use Rattle.psu_session.proofs.parts.Parts.receive_messages.Goals as goal

pub loop-message-init : goal.loop-message-init
loop-message-init g c = record { done = begins g.D.Device.does c.args.now c.args.side (map received c.args.messages.now.items) (state_of c.args.self.now) c.args.device.now; capacity = omega arith }

pub loop-message-preserved : goal.loop-message-preserved
loop-message-preserved g c =
    let does = g.D.Device.does in
    let all = map received c.args.messages.now.items in
    let s = state_of c.args.self.now in
    let here = subst (λ (left : List (Message _)). Receiving does c.args.now c.args.side all (map received left) s c.args.device.now (state_of c.loop-message.self) c.loop-message.device)
    c.in-Some.ensures.items c.loop-message.invariant.done in
    record {
      done = receives does c.args.now c.args.side all (received c.in-Some.message) (map received c.pop_front.new.self.items) s c.args.device.now (state_of c.loop-message.self) c.loop-message.device (state_of c.receive_message.new.self)
          c.receive_message.new.device here c.in_ok-receive_message.ensures.done;
      capacity = omega (arith, c.loop-message.invariant.capacity, c.receive_message.ensures.capacity);
    }

pub returns-clause-done : goal.returns-clause-done
returns-clause-done g c =
    let does = g.D.Device.does in
    let all = map received c.args.messages.now.items in
    let s = state_of c.args.self.now in
    let none : c.loop-message.messages.items ≡ [] = grind (arith, common_steps, c.in_default.ensures, c.in_default.is, c.in_default.not-Some) in
    received_all does c.args.now c.args.side all s c.args.device.now (state_of c.loop-message.self) c.loop-message.device
    (subst (λ (left : List (Message _)). Receiving does c.args.now c.args.side all (map received left) s c.args.device.now (state_of c.loop-message.self) c.loop-message.device) none c.loop-message.invariant.done)

pub returns-in_err-receive_message-clause-stopped : goal.returns-in_err-receive_message-clause-stopped
returns-in_err-receive_message-clause-stopped g c =
    let does = g.D.Device.does in
    let all = map received c.args.messages.now.items in
    let s = state_of c.args.self.now in
    let here = subst (λ (left : List (Message _)). Receiving does c.args.now c.args.side all (map received left) s c.args.device.now (state_of c.loop-message.self) c.loop-message.device)
    c.in-Some.ensures.items c.loop-message.invariant.done in
    passed_on c.from_residual.result c.in_err-receive_message.field-0.0 (λ (cause : EndCause). StopsIn does (EachReceived c.args.now c.args.side all) cause s c.args.device.now c.receive_message.new.device) c.from_residual.ensures.1
    (message_stops does c.args.now c.args.side c.in_err-receive_message.field-0.0 all (received c.in-Some.message) (map received c.pop_front.new.self.items) s c.args.device.now (state_of c.loop-message.self) c.loop-message.device c.receive_message.new.device here
    c.in_err-receive_message.ensures.stopped)

pub returns-clause-capacity : goal.returns-clause-capacity
returns-clause-capacity g c = c.loop-message.invariant.capacity

pub returns-in_err-receive_message-clause-capacity : goal.returns-in_err-receive_message-clause-capacity
returns-in_err-receive_message-clause-capacity g c = omega (arith, c.loop-message.invariant.capacity, c.receive_message.ensures.capacity)
