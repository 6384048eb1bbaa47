use Rattle.std.proofs.Common.{◌≡◌, ◌∙◌, Option, Some, None, true, [], ◌∷◌, ap, refl, sym}
use Rattle.psu_hislip.specs.LockResponses.{lock_response}
use Rattle.psu_hislip.specs.declared.header.Header.{Header}
use Rattle.psu_session.specs.Events.{DeviceCalled, Locked, waits_after, waits_if}
use Rattle.psu_session.specs.Step.{puts_any}
use Rattle.psu_session.specs.Shown.{state_of}
use Rattle.psu_session.specs.State.{SessionState, added}
use Rattle.psu_session.proofs.Serving.{asks_nothing, none_added}
use Rattle.psu_session.proofs.parts.Parts.ask_for_lock.Goals as goal

-- the state after a request with this response
abbrev requested : SessionState → Option Header → SessionState
requested s header = record (added s [] [] (puts_any header)) { lock_waits = waits_after (waits_if s.lock_waits header) (puts_any header) }

pub returns-in-Some-clause-done : goal.returns-in-Some-clause-done
returns-in-Some-clause-done g c =
    let reply = c.lock-reply.result in
    let is : Some c.in-Some.header ≡ lock_response reply = sym c.in-Some.is ∙ c.lock_response.ensures in
    record {
      done = DeviceCalled (Locked c.args.kind c.args.timeout reply) ∷ puts_any (lock_response reply);
      are = (reply, refl);
      runs = (c.lock-reply.new.self, c.lock-reply.ensures, asks_nothing g.D.Device.does (lock_response reply) c.lock-reply.new.self);
      then = c.put_header.ensures.done ∙ ap (requested (state_of c.args.self.now)) is;
    }

pub returns-in-None-clause-done : goal.returns-in-None-clause-done
returns-in-None-clause-done g c =
    let reply = c.lock-reply.result in
    let is : None ≡ lock_response reply = sym c.in-None.is ∙ c.lock_response.ensures in
    record {
      done = DeviceCalled (Locked c.args.kind c.args.timeout reply) ∷ puts_any (lock_response reply);
      are = (reply, refl);
      runs = (c.lock-reply.new.self, c.lock-reply.ensures, asks_nothing g.D.Device.does (lock_response reply) c.lock-reply.new.self);
      then = ap (λ (z : SessionState). record z { lock_waits = true }) (sym (none_added (state_of c.args.self.now))) ∙ ap (requested (state_of c.args.self.now)) is;
    }
