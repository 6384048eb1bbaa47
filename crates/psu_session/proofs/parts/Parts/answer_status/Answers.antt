use Rattle.std.proofs.Common.{◌∙◌, [], ◌∷◌, ◌++◌, ap, refl}
use Rattle.psu_hislip.specs.Frame.{header_of}
use Rattle.psu_hislip.specs.declared.header.Header.{Header}
use Rattle.psu_hislip.specs.declared.message_type.MessageType.TheVariants.{AsyncStatusResponse}
use Rattle.psu_session.specs.Events.{DeviceCalled, Queried}
use Rattle.psu_session.specs.Step.{delivers, puts}
use Rattle.psu_session.specs.Shown.{state_of}
use Rattle.psu_session.specs.State.{added}
use Rattle.psu_session.proofs.Serving.{delivers_nothing, runs_after}
use Rattle.psu_session.proofs.parts.Parts.answer_status.Goals as goal

pub returns-clause-done : goal.returns-clause-done
returns-clause-done g c =
    let does = g.D.Device.does in
    let byte = c.query-byte.result in
    let first = delivers c.args.is_delivered in
    let answer = puts (header_of AsyncStatusResponse byte 0 0) in
    record {
      done = first ++ (DeviceCalled (Queried byte) ∷ answer);
      are = (byte, refl);
      runs = runs_after does first (DeviceCalled (Queried byte) ∷ answer) c.args.device.now c.deliver.new.device c.query-byte.new.self c.deliver.ensures (c.query-byte.new.self, c.query-byte.ensures, refl);
      then = c.put_header.ensures.done ∙ ap (λ (h : Header). added (state_of c.args.self.now) [] [] (puts h)) c.new.ensures ∙ delivers_nothing (state_of c.args.self.now) c.args.is_delivered (DeviceCalled (Queried byte) ∷ answer);
    }
