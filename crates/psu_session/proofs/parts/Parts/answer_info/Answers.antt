use Rattle.std.proofs.Common.{◌∙◌, [], ◌∷◌, ap, refl}
use Rattle.psu_hislip.specs.LockResponses.{lock_info_response}
use Rattle.psu_hislip.specs.declared.header.Header.{Header}
use Rattle.psu_session.specs.Events.{DeviceCalled, Informed}
use Rattle.psu_session.specs.Step.{puts}
use Rattle.psu_session.specs.Shown.{state_of}
use Rattle.psu_session.specs.State.{added}
use Rattle.psu_session.proofs.parts.Parts.answer_info.Goals as goal

pub returns-clause-done : goal.returns-clause-done
returns-clause-done g c =
    let info = c.inform-info.result in
    record {
      done = DeviceCalled (Informed info) ∷ puts (lock_info_response info);
      are = (info, refl);
      runs = (c.inform-info.new.self, c.inform-info.ensures, refl);
      then = c.put_header.ensures.done ∙ ap (λ (h : Header). added (state_of c.args.self.now) [] [] (puts h)) c.lock_info_response.ensures;
    }
