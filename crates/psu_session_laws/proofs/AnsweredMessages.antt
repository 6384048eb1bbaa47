-- What is sent for messages.
use Rattle.std.proofs.Common.{◌≡◌, ℕ, true, List, [], ◌∷◌, ◌++◌, refl, sym, ap, ◌∙◌, subst, inl, inr}
use Rattle.std.proofs.lemmas.List.{append-nil}
use Rattle.psu_hislip.specs.Answer.{IsAnswerCutAnywhere, IsPart}
use Rattle.psu_messages.specs.Response.{are_some, end_of, joined, response}
use Rattle.psu_messages.specs.Answers.{IsAnswered, answers, ends_text, text_sent}
use Rattle.psu_messages.specs.Executions.{Reaches, Progress}
use Rattle.psu_messages.specs.Effects.{Effect, Sent}
use Rattle.psu_messages.specs.Messages.{AreMessages, AreSomeMessages, IsMessage, OverIsMessages, SoFarIsMessages}
use Rattle.psu_messages.specs.Messages.AreMessages.{NoMessage, OneMore}
use Rattle.psu_messages.specs.Units.{Source}
use Rattle.psu_messages.proofs.Answering.{answers_append, text_append}
use Rattle.psu_session_laws.specs.Answered as specs
use Rattle.psu_session_laws.specs.Answered.{AreMessagesAnswered, IsAnswered as IsTurnAnswered, IsMessageAnswered, IsAnsweredSoFar}
use Rattle.psu_session.specs.Orders.{Done, Turn, effects, frames}
use Rattle.psu_session_laws.proofs.Framing.{EachFits, PartsAreAnAnswer, both_fit, parts, silent, whole}
use Rattle.psu_session_laws.proofs.Mapped.{none_mapped, split}

-- the text of a message that is answered is its response
response_is : (message : List Effect) (a : IsAnswered message) → (are_some (answers message) ≡ true) × (text_sent a.before ++ a.piece ≡ response (answers message))
response_is message a =
    let given : answers message ≡ answers a.before = ap answers a.ends ∙ answers_append a.before (Sent a.piece true ∷ []) ∙ append-nil (answers a.before) in
    let some : are_some (answers message) ≡ true = ap are_some given ∙ a.answered in
    let sent : text_sent message ≡ text_sent a.before ++ a.piece = ap text_sent a.ends ∙ text_append a.before (Sent a.piece true ∷ []) ∙ ap (λ (z : List ℕ). text_sent a.before ++ z) (append-nil a.piece) in
    (some, sym sent ∙ a.text ∙ ap (λ (z : List (List ℕ)). joined z ++ 10 ∷ []) (sym given) ∙ ap (λ b. joined (answers message) ++ end_of b) (sym some))

answered_message : PartsAreAnAnswer → (greatest id : ℕ) (source : Source) (from to : ℕ) (message : List Done) → EachFits greatest id message → IsMessage source from to (effects message) → IsMessageAnswered greatest id message
answered_message law greatest id source from to message f m =
    elim m.text [
      | inl a ↦
          let r = response_is (effects message) a in
          inl (r.0, subst (λ (z : List ℕ). IsAnswerCutAnywhere greatest id z (frames message)) r.1 (whole law greatest id message a.before a.piece f a.ends a.whole))
      | inr s ↦ inr (s.answers, silent greatest id (frames message) (subst (λ (z : List ℕ). IsPart greatest id z (frames message)) s.text (parts greatest id message f s.ends)))
    ]

pub answered_messages : PartsAreAnAnswer → (greatest id : ℕ) (source : Source) (units : ℕ) (all : List Effect) (done : List Done) → AreMessages source units all → effects done ≡ all → EachFits greatest id done
    → AreMessagesAnswered greatest id source units done
answered_messages law greatest id source units all done NoMessage e f = subst (λ (z : List Done). AreMessagesAnswered greatest id source 0 z) (sym (none_mapped (λ (d : Done). d.effect) done e)) specs.AreMessagesAnswered.NoMessage
answered_messages law greatest id source units all done (OneMore {from = from} {effects = before} m to message is) e f =
    let s = split (λ (d : Done). d.effect) done before message e in
    let fit = both_fit greatest id s.front s.back (subst (λ (z : List Done). EachFits greatest id z) s.is f) in
    let here : IsMessage source from to (effects s.back) = subst (λ (z : List Effect). IsMessage source from to z) (sym s.of_right) is in
    subst (λ (z : List Done). AreMessagesAnswered greatest id source to z) (sym s.is)
    (specs.AreMessagesAnswered.OneMore (answered_messages law greatest id source from before s.front m s.of_left fit.0) to s.back here (answered_message law greatest id source from to s.back fit.1 here))

answered_so_far : PartsAreAnAnswer → (greatest id : ℕ) (source : Source) (done : List Done) (c : Progress) → AreSomeMessages source (effects done) c.text → EachFits greatest id done → IsAnsweredSoFar greatest id source done
answered_so_far law greatest id source done c m f =
    let s = split (λ (d : Done). d.effect) done m.whole m.begun m.is in
    let fit = both_fit greatest id s.front s.back (subst (λ (z : List Done). EachFits greatest id z) s.is f) in
    record {
      units = m.units;
      whole = s.front;
      begun = s.back;
      is = s.is;
      messages = answered_messages law greatest id source m.units m.whole s.front m.messages s.of_left fit.0;
      sent = text_sent (effects s.back);
      rest = c.text.rest;
      answered = ap (λ (z : List Effect). joined (answers z)) s.of_right ∙ sym m.text ∙ ap (λ (z : List Effect). text_sent z ++ c.text.rest) (sym s.of_right);
      parts = parts greatest id s.back fit.1 (ap ends_text s.of_right ∙ m.unended);
    }

pub answered_turn : PartsAreAnAnswer → OverIsMessages → SoFarIsMessages → (greatest : ℕ) (turn : Turn) → Reaches turn.order.source (effects turn.done) turn.progress → EachFits greatest turn.order.origin.id turn.done
    → IsTurnAnswered greatest turn
answered_turn law over so_far greatest turn comes f = record {
  whole = λ ended. answered_messages law greatest turn.order.origin.id turn.order.source turn.progress.standing.units (effects turn.done) turn.done (over turn.order.source (effects turn.done) turn.progress comes ended) refl f;
  so_far = answered_so_far law greatest turn.order.origin.id turn.order.source turn.done turn.progress (so_far turn.order.source (effects turn.done) turn.progress comes) f;
}
