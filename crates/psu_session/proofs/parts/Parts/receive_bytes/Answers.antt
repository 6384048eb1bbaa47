use Rattle.std.proofs.Common.{◌∷◌, inl, inr, map, refl, subst}
use Rattle.psu_hislip.specs.Stream.{received}
use Rattle.psu_session.specs.Events.{BytesReceived}
use Rattle.psu_session.specs.Step.{EachReceived}
use Rattle.psu_session.specs.Shown.{state_of}
use Rattle.psu_session.specs.State.{SessionState}
use Rattle.psu_messages.proofs.Going.{passed_on}
use Rattle.psu_session.specs.Stopping.{StopsReceiving}
use Rattle.psu_session.specs.declared.phase.EndCause.{EndCause}
use Rattle.psu_session.proofs.Stopping.{received_first}
use Rattle.psu_session.proofs.parts.Parts.receive_bytes.Goals as goal

pub returns-clause-done : goal.returns-clause-done
returns-clause-done g c =
    let fed = c.in_ok-feed.ensures.fed in
    let m = c.in_ok-receive_messages.ensures.done in
    record {
      done = BytesReceived c.args.side c.args.received_bytes.now ∷ m.done;
      is = record {
        messages = map received c.feed.new.messages.items;
        channel = fed.channel;
        feeds = fed.feeds;
        immediate = m.done;
        are = refl;
        each = subst (λ (z : SessionState). EachReceived c.args.now c.args.side (map received c.feed.new.messages.items) z m.done (state_of c.receive_messages.new.self)) fed.then
            m.is;
      };
      runs = m.runs;
    }

pub returns-in_err-feed-clause-stopped : goal.returns-in_err-feed-clause-stopped
returns-in_err-feed-clause-stopped g c =
    passed_on c.from_residual.result c.in_err-feed.field-0.0 (λ (cause : EndCause). StopsReceiving g.D.Device.does c.args.now c.args.side c.args.received_bytes.now cause (state_of c.args.self.now) c.args.device.now c.args.device.now) c.from_residual.ensures.1
    (inl (refl, c.in_err-feed.ensures.cause))

pub returns-in_err-receive_messages-clause-stopped : goal.returns-in_err-receive_messages-clause-stopped
returns-in_err-receive_messages-clause-stopped g c =
    let cause = c.in_err-receive_messages.field-0.0 in
    passed_on c.from_residual-in_err-receive_messages.result cause (λ (cause : EndCause). StopsReceiving g.D.Device.does c.args.now c.args.side c.args.received_bytes.now cause (state_of c.args.self.now) c.args.device.now c.receive_messages.new.device)
    c.from_residual-in_err-receive_messages.ensures.1
    (inr (received_first g.D.Device.does c.args.now c.args.side cause c.args.received_bytes.now (map received c.feed.new.messages.items) (state_of c.args.self.now) (state_of c.feed.new.self) c.args.device.now
    c.receive_messages.new.device c.in_ok-feed.ensures.fed c.in_err-receive_messages.ensures.stopped))
