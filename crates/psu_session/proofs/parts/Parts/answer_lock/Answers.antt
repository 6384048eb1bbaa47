use Rattle.std.proofs.Common.{◌≡◌, ◌∙◌, Bool, Option, None, false, [], ap, refl, subst, sym}
use Rattle.psu_locks.specs.declared.requests.Kind.{Kind}
use Rattle.psu_hislip.specs.LockResponses.{lock_answer}
use Rattle.psu_hislip.specs.declared.header.Header.{Header}
use Rattle.psu_hislip.specs.declared.lock_responses.LockResponse.TheVariants.{Error}
use Rattle.psu_session.specs.Locking.{kind_of}
use Rattle.psu_session.specs.Step.{IsLocked, puts}
use Rattle.psu_session.specs.Shown.{state_of}
use Rattle.psu_session.specs.State.{added}
use Rattle.psu_session.proofs.parts.Parts.answer_lock.Goals as goal

pub returns-then-self-clause-done : goal.returns-then-self-clause-done
returns-then-self-clause-done g c = record {
  done = puts (lock_answer Error);
  are = subst (λ (z : Bool). IsLocked z c.args.timeout (kind_of c.args.string.now) (puts (lock_answer Error))) (sym c.if-self.true) refl;
  runs = refl;
  then = c.put_header.ensures.done ∙ ap (λ (h : Header). added (state_of c.args.self.now) [] [] (puts h)) c.header.ensures;
}

pub returns-in-None-clause-done : goal.returns-in-None-clause-done
returns-in-None-clause-done g c =
    let none : None ≡ kind_of c.args.string.now = sym c.in-None.is ∙ c.lock_kind.ensures in
    record {
      done = puts (lock_answer Error);
      are = subst (λ (z : Bool). IsLocked z c.args.timeout (kind_of c.args.string.now) (puts (lock_answer Error))) (sym c.if-self.false)
          (subst (λ (z : Option Kind). IsLocked false c.args.timeout z (puts (lock_answer Error))) none refl);
      runs = refl;
      then = c.put_header-in-None.ensures.done ∙ ap (λ (h : Header). added (state_of c.args.self.now) [] [] (puts h)) c.header-in-None.ensures;
    }
