use Rattle.std.proofs.Common.{ℕ, ◌∙◌, [], ap}
use Rattle.psu_hislip.specs.LockResponses.{release_response}
use Rattle.psu_hislip.specs.declared.header.Header.{Header}
use Rattle.psu_session.specs.Step.{puts}
use Rattle.psu_session.specs.Shown.{state_of}
use Rattle.psu_session.specs.State.{added, with_owed}
use Rattle.psu_session.proofs.parts.Parts.release_lock.Goals as goal

pub returns-clause-frees : goal.returns-clause-frees
returns-clause-frees g c =
    let s = state_of c.args.self.now in
    record {
      reply = c.release-freed.result;
      call = c.release-freed.ensures;
      then = c.put_header.ensures.done ∙ ap (λ (h : Header). added (with_owed s c.give_back.new.self.out) [] [] (puts h)) c.release_response.ensures
          ∙ ap (λ (z : ℕ). added (with_owed s z) [] [] (puts (release_response c.release-freed.result))) c.give_back.ensures;
    }
