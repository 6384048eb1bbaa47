use Rattle.std.proofs.Common.{◌∙◌, Some, None, [], ◌∷◌, ap, refl, sym}
use Rattle.psu_hislip.specs.declared.header.Header.{Header}
use Rattle.psu_session.specs.Events.{ServiceRequested}
use Rattle.psu_session.specs.Step.{puts}
use Rattle.psu_session.specs.Shown.{state_of}
use Rattle.psu_session.specs.State.{added}
use Rattle.psu_session.proofs.Serving.{none_added}
use Rattle.psu_session.proofs.parts.Parts.service_requested.Goals as goal

pub returns-in-Some-clause-done : goal.returns-in-Some-clause-done
returns-in-Some-clause-done g c = record {
  done = ServiceRequested (Some c.in-Some.byte) ∷ [];
  are = (Some c.in-Some.byte, refl);
  runs = (c.fetch.new.self, c.in-Some.ensures, refl);
  then = c.put_header.ensures.done ∙ ap (λ (h : Header). added (state_of c.args.self.now) [] [] (puts h)) c.new.ensures;
}

pub returns-in_default-clause-done : goal.returns-in_default-clause-done
returns-in_default-clause-done g c = record {
  done = ServiceRequested None ∷ [];
  are = (None, refl);
  runs = (c.fetch.new.self, c.in_default.ensures, refl);
  then = sym (none_added (state_of c.args.self.now));
}
