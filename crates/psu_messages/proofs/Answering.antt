-- The texts that are sent for a transmission.
use Rattle.std.proofs.Common.{◌≡◌, ℕ, Bool, true, false, List, [], ◌∷◌, ◌++◌, refl, sym, ap, ◌∙◌, subst, append_assoc}
use Rattle.std.proofs.lemmas.List.{append-nil}
use Rattle.psu_tree.specs.declared.command.Request.{Request}
use Rattle.psu_replies.specs.Reply.{Reply, Done, Answer, Error, Expand, Parked, Held, Later}
use Rattle.psu_messages.specs.ResponseBuffer.{MakesBuffer, PartsAreTheAnswers, Text, emptied}
use Rattle.psu_messages.specs.ResponseBuffer.MakesBuffer.{Begin, Append, Send}
use Rattle.psu_messages.specs.Response.{are_some}
use Rattle.psu_messages.specs.Answers.{AllIsSent, AreAnswered, IsAnswered, Taken, answer_in, answers, ends_text, text_sent}
use Rattle.psu_messages.specs.Answers.AreAnswered.{None, More}
use Rattle.psu_messages.specs.Answers.Taken.{New, Call}
use Rattle.psu_messages.specs.Effects.{Effect, Executed, Settled, Sent, IsTry}
use Rattle.psu_messages.specs.Units.{Source}
use Rattle.psu_messages.specs.Executions.{Reaches, Progress, IsOver, text_after}
use Rattle.psu_messages.specs.Executions.Reaches.{Begins, Tries, Leaves, Sends, Ends}

pub taken : (source : Source) (effects : List Effect) (c : Progress) → Taken source effects c → Reaches source effects c
taken source effects c New = Begins
taken source effects c (Call {effects = before} {c = old} t added new reaches) = reaches before (taken source before old t)

-- ---- lists of effects

pub answers_append : (xs ys : List Effect) → answers (xs ++ ys) ≡ answers xs ++ answers ys
answers_append [] ys = refl
answers_append (Executed request reply ∷ xs) ys = ap (λ (l : List (List ℕ)). answer_in reply ++ l) (answers_append xs ys) ∙ sym (append_assoc (answer_in reply) (answers xs) (answers ys))
answers_append (Settled reply ∷ xs) ys = ap (λ (l : List (List ℕ)). answer_in reply ++ l) (answers_append xs ys) ∙ sym (append_assoc (answer_in reply) (answers xs) (answers ys))
answers_append (Sent text last ∷ xs) ys = answers_append xs ys

pub text_append : (xs ys : List Effect) → text_sent (xs ++ ys) ≡ text_sent xs ++ text_sent ys
text_append [] ys = refl
text_append (Executed request reply ∷ xs) ys = text_append xs ys
text_append (Settled reply ∷ xs) ys = text_append xs ys
text_append (Sent text last ∷ xs) ys = ap (λ (l : List ℕ). text ++ l) (text_append xs ys) ∙ sym (append_assoc text (text_sent xs) (text_sent ys))

pub open_more : (xs : List Effect) (effect : Effect) → ends_text xs ≡ false → ends_text (effect ∷ []) ≡ false → ends_text (xs ++ effect ∷ []) ≡ false
open_more [] effect e f = f
open_more (Executed request reply ∷ xs) effect e f = open_more xs effect e f
open_more (Settled reply ∷ xs) effect e f = open_more xs effect e f
open_more (Sent text false ∷ xs) effect e f = open_more xs effect e f
open_more (Sent text true ∷ xs) effect e f = absurd (cc (e))

-- ---- the message that has begun

-- answered messages, and the effects of one whose responses make this text
record Responding (effects : List Effect) (text : Text) : Type 0 where
  whole : List Effect
  now : List Effect
  is : effects ≡ whole ++ now
  messages : AreAnswered whole
  unended : ends_text now ≡ false
  makes : MakesBuffer (answers now) (text_sent now) text

replied : (given : List (List ℕ)) (sent : List ℕ) (text : Text) (reply : Reply) → MakesBuffer given sent text → MakesBuffer (given ++ answer_in reply) sent (text_after text reply)
replied given sent text Done m = subst (λ (z : List (List ℕ)). MakesBuffer z sent text) (sym (append-nil given)) m
replied given sent text (Answer answer) m = Append m answer
replied given sent text (Error error) m = subst (λ (z : List (List ℕ)). MakesBuffer z sent text) (sym (append-nil given)) m
replied given sent text (Expand body) m = subst (λ (z : List (List ℕ)). MakesBuffer z sent text) (sym (append-nil given)) m
replied given sent text Parked m = subst (λ (z : List (List ℕ)). MakesBuffer z sent text) (sym (append-nil given)) m
replied given sent text Held m = subst (λ (z : List (List ℕ)). MakesBuffer z sent text) (sym (append-nil given)) m
replied given sent text Later m = subst (λ (z : List (List ℕ)). MakesBuffer z sent text) (sym (append-nil given)) m

-- an effect that sends nothing and has this reply
pub added_by : (now : List Effect) (text : Text) (effect : Effect) (reply : Reply) → answers (effect ∷ []) ≡ answer_in reply → text_sent (effect ∷ []) ≡ [] → MakesBuffer (answers now) (text_sent now) text
    → MakesBuffer (answers (now ++ effect ∷ [])) (text_sent (now ++ effect ∷ [])) (text_after text reply)
added_by now text effect reply gives quiet m =
    let sent : text_sent now ≡ text_sent (now ++ effect ∷ []) = sym (text_append now (effect ∷ []) ∙ ap (λ (l : List ℕ). text_sent now ++ l) quiet ∙ append-nil (text_sent now)) in
    let given : answers now ++ answer_in reply ≡ answers (now ++ effect ∷ []) = sym (answers_append now (effect ∷ []) ∙ ap (λ (l : List (List ℕ)). answers now ++ l) gives) in
    subst (λ (z : List ℕ). MakesBuffer (answers (now ++ effect ∷ [])) z (text_after text reply)) sent
    (subst (λ (z : List (List ℕ)). MakesBuffer z (text_sent now) (text_after text reply)) given (replied (answers now) (text_sent now) text reply m))

pub try_gives : (parked : Bool) (request : Request) (effect : Effect) (reply : Reply) → IsTry parked request effect reply → answers (effect ∷ []) ≡ answer_in reply
try_gives false request (Executed other answer) reply (same, is) = append-nil (answer_in answer) ∙ ap answer_in is
try_gives false request (Settled answer) reply none = absurd none
try_gives false request (Sent text last) reply none = absurd none
try_gives true request (Executed other answer) reply none = absurd none
try_gives true request (Settled answer) reply is = append-nil (answer_in answer) ∙ ap answer_in is
try_gives true request (Sent text last) reply none = absurd none

pub try_quiet : (parked : Bool) (request : Request) (effect : Effect) (reply : Reply) → IsTry parked request effect reply → (text_sent (effect ∷ []) ≡ []) × (ends_text (effect ∷ []) ≡ false)
try_quiet false request (Executed other answer) reply is = (refl, refl)
try_quiet false request (Settled answer) reply none = absurd none
try_quiet false request (Sent text last) reply none = absurd none
try_quiet true request (Executed other answer) reply none = absurd none
try_quiet true request (Settled answer) reply is = (refl, refl)
try_quiet true request (Sent text last) reply none = absurd none

adds_more : (effects : List Effect) (old new : Text) (effect : Effect) → (t : Responding effects old) → ends_text (effect ∷ []) ≡ false → MakesBuffer (answers (t.now ++ effect ∷ [])) (text_sent (t.now ++ effect ∷ [])) new → Responding (effects ++ effect ∷ []) new
adds_more effects old new effect t still m = record {
  whole = t.whole;
  now = t.now ++ effect ∷ [];
  is = ap (λ (l : List Effect). l ++ effect ∷ []) t.is ∙ append_assoc t.whole t.now (effect ∷ []);
  messages = t.messages;
  unended = open_more t.now effect t.unended still;
  makes = m;
}

-- a part is sent
pub parted : (now : List Effect) (text : Text) → MakesBuffer (answers now) (text_sent now) text → MakesBuffer (answers (now ++ Sent text.rest false ∷ [])) (text_sent (now ++ Sent text.rest false ∷ [])) (emptied text)
parted now text m =
    let given : answers now ≡ answers (now ++ Sent text.rest false ∷ []) = sym (answers_append now (Sent text.rest false ∷ []) ∙ append-nil (answers now)) in
    let sent : text_sent now ++ text.rest ≡ text_sent (now ++ Sent text.rest false ∷ [])
    = sym (text_append now (Sent text.rest false ∷ []) ∙ ap (λ (l : List ℕ). text_sent now ++ l) (append-nil text.rest)) in
    subst (λ (z : List ℕ). MakesBuffer (answers (now ++ Sent text.rest false ∷ [])) z (emptied text)) sent
    (subst (λ (z : List (List ℕ)). MakesBuffer z (text_sent now ++ text.rest) (emptied text)) given (Send m))

has_more : (given : List (List ℕ)) (answer : List ℕ) → are_some (given ++ answer ∷ []) ≡ true
has_more [] answer = refl
has_more (x ∷ xs) answer = refl

has_answer : (given : List (List ℕ)) (sent : List ℕ) (text : Text) → MakesBuffer given sent text → text.answered ≡ true → are_some given ≡ true
has_answer given sent text Begin e = absurd (cc (e))
has_answer given sent text (Append {answers = before} {sent = gone} {text = old} m answer) e = has_more before answer
has_answer given sent text (Send {answers = all} {sent = before} {text = old} m) e = has_answer all before old m e

pub record Nothing (given : List (List ℕ)) (sent : List ℕ) (text : Text) : Type 0 where
  pub unanswered : given ≡ []
  pub unsent : sent ≡ []
  pub empty : text.rest ≡ []

pub no_answer : (given : List (List ℕ)) (sent : List ℕ) (text : Text) → MakesBuffer given sent text → text.answered ≡ false → Nothing given sent text
no_answer given sent text Begin e = record { unanswered = refl; unsent = refl; empty = refl }
no_answer given sent text (Append {answers = before} {sent = gone} {text = old} m answer) e = absurd (cc (e))
no_answer given sent text (Send {answers = all} {sent = before} {text = old} m) e =
    let n = no_answer all before old m e in record { unanswered = n.unanswered; unsent = ap (λ (l : List ℕ). l ++ old.rest) n.unsent ∙ n.empty; empty = refl }

-- a message ends
pub answered : PartsAreTheAnswers → (now : List Effect) (text : Text) → ends_text now ≡ false → MakesBuffer (answers now) (text_sent now) text → text.answered ≡ true → IsAnswered (now ++ Sent (text.rest ++ 10 ∷ []) true ∷ [])
answered parts now text still m e = record {
  before = now;
  piece = text.rest ++ 10 ∷ [];
  ends = refl;
  whole = still;
  answered = has_answer (answers now) (text_sent now) text m e;
  text = text_append now (Sent (text.rest ++ 10 ∷ []) true ∷ []) ∙ ap (λ (l : List ℕ). text_sent now ++ l) (append-nil (text.rest ++ 10 ∷ []))
      ∙ sym (append_assoc (text_sent now) text.rest (10 ∷ [])) ∙ ap (λ (l : List ℕ). l ++ 10 ∷ []) (parts (answers now) (text_sent now) text m);
}

responding : PartsAreTheAnswers → (source : Source) (effects : List Effect) (c : Progress) → Reaches source effects c → Responding effects c.text
responding parts source effects c Begins = record { whole = []; now = []; is = refl; messages = None; unended = refl; makes = Begin }
responding parts source effects c (Tries {effects = before} {c = old} m request next effect reply is) =
    let t = responding parts source before old m in
    let quiet = try_quiet old.standing.parked request effect reply is in
    adds_more before old.text (text_after old.text reply) effect t quiet.1 (added_by t.now old.text effect reply (try_gives old.standing.parked request effect reply is) quiet.0 t.makes)
responding parts source effects c (Leaves {effects = before} {c = old} m is) = responding parts source before old m
responding parts source effects c (Sends {effects = before} {c = old} m begun long) =
    let t = responding parts source before old m in
    adds_more before old.text (emptied old.text) (Sent old.text.rest false) t refl (parted t.now old.text t.makes)
responding parts source effects c (Ends {effects = before} {c = old} m ends) =
    let t = responding parts source before old m in
    record {
      whole = t.whole ++ (t.now ++ Sent (old.text.rest ++ 10 ∷ []) true ∷ []);
      now = [];
      is = ap (λ (l : List Effect). l ++ Sent (old.text.rest ++ 10 ∷ []) true ∷ []) t.is ∙ append_assoc t.whole t.now (Sent (old.text.rest ++ 10 ∷ []) true ∷ [])
          ∙ sym (append-nil (t.whole ++ (t.now ++ Sent (old.text.rest ++ 10 ∷ []) true ∷ [])));
      messages = More t.messages (t.now ++ Sent (old.text.rest ++ 10 ∷ []) true ∷ []) (answered parts t.now old.text t.unended t.makes ends.answered);
      unended = refl;
      makes = Begin;
    }

pub all_sent : PartsAreTheAnswers → (source : Source) (effects : List Effect) (c : Progress) → Reaches source effects c → IsOver source c → AllIsSent effects
all_sent parts source effects c m over =
    let t = responding parts source effects c m in
    let n = no_answer (answers t.now) (text_sent t.now) c.text t.makes over.sent in
    (t.whole, t.now, t.is, t.messages, record { answers = n.unanswered; text = n.unsent; ends = t.unended })
