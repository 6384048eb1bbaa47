-- The messages of a transmission, one after another.
use Rattle.std.proofs.Common.{◌≡◌, ◌&&◌, ◌||◌, ◌==◌, ◌≤◌, ◌<◌, if◌then◌else◌, ℕ, Bool, true, false, Option, Some, None, List, [], ◌∷◌, ◌++◌, drop, refl, sym, ap, ◌∙◌, subst, append_assoc, inl, inr, arith}
use Rattle.std.proofs.lemmas.Bool.{eq-eqb, eqb-true}
use Rattle.std.proofs.lemmas.Bool.Decides.{eqb_tells}
use Rattle.std.proofs.lemmas.List.{append-nil}
use Rattle.std.proofs.Math.Bool.{or-true}
use Rattle.psu_lex.specs.Bytes.{all_white}
use Rattle.psu_lex.specs.Message.{Part, Token, Byte, Separator, Whole, Faulty, next_first, units_of}
use Rattle.psu_tree.specs.declared.command.Request.{Request}
use Rattle.psu_replies.specs.Reply.{Reply, Done, Answer, Error, Expand, Parked, Held, Later}
use Rattle.psu_messages.specs.ResponseBuffer.{MakesBuffer, PartsAreTheAnswers, Text, nothing}
use Rattle.psu_messages.specs.ResponseBuffer.MakesBuffer.{Begin, Append, Send}
use Rattle.psu_messages.specs.declared.need.Need.{Need}
use Rattle.psu_messages.specs.Answers.{IsSilent, answer_in, answers, ends_text, text_sent}
use Rattle.psu_messages.specs.Effects.{Effect, Executed, Settled, Sent, IsTry, needs}
use Rattle.psu_messages.specs.Units as units
use Rattle.psu_messages.specs.Units.{Asks, EndsMessage, Fault, IsBetween, IsUnit, Source}
use Rattle.psu_messages.specs.Executions.{Reaches, Progress, IsOver, NextAt, expansion_after, standing_after, text_after}
use Rattle.psu_messages.specs.Executions.Reaches.{Begins, Tries, Leaves, Sends, Ends}
use Rattle.psu_messages.specs.Messages.{AreMessages, AreSomeMessages, IsAskedIn}
use Rattle.psu_messages.specs.Messages.AreMessages.{NoMessage, OneMore}
use Rattle.psu_messages.specs.Turns.{Tried, UnitsDone, acts}
use Rattle.psu_messages.specs.Turns.Tried.{Untried, Again}
use Rattle.psu_messages.specs.Turns.UnitsDone.{NoUnit, Plain, Expanded}
use Rattle.psu_messages.proofs.Answering.{answered, answers_append, no_answer, open_more, parted, added_by, try_gives, try_quiet}
use Rattle.psu_messages.proofs.Turning.{At, OneList, Outside, acts_append, acts_one, acts_sent, leave_at, no_ask, over_at, same_body, try_outside, try_within, untried}

-- ---- which unit is the first of a message

same_first : OneList → (source : Source) (place : ℕ) (request other : Request) (first late : Bool) → Asks source place request first → Asks source place other late → first ≡ late
same_first one (units.Text bytes) place request other first late (p, u, e) (q, v, f) =
    let both : p ∷ u.after ≡ q ∷ v.after = sym (subst (λ (z : List Part). drop place z ≡ p ∷ u.after) (one bytes u.units v.units u.are v.are) u.here) ∙ v.here in
    let same : p ≡ q = cc (both) in
    sym e ∙ ap (λ (x : Part). x.first) same ∙ f
same_first one (Fault error) place request other first late (z, is, e) (y, it, f) = e ∙ sym f

-- the unit at a place, if there is one, is the first of a message
abbrev IsBeginning : Source → ℕ → Type 0
IsBeginning source place = (request : Request) (first : Bool) → Asks source place request first → first ≡ true

ended_first : (white : Bool) (text : List ℕ) (p : Part) (after : List Part) → (let l : List Part = if white then [] else record { text = text; first = true; fault = None } ∷ [] in l) ≡ p ∷ after → p.first ≡ true
ended_first true text p after e = absurd (cc (e))
ended_first false text p after e =
    let same : record { text = text; first = true; fault = None } ≡ p = cc (e) in sym (ap (λ (x : Part). x.first) same)

parted_first : (white : Bool) (text : List ℕ) (next : Bool) (tokens : List Token) (p : Part) (after : List Part) → (white ≡ true → next ≡ true)
    → (let l : List Part = if white then [] else record { text = text; first = true; fault = None } ∷ [] in l) ++ units_of next [] tokens ≡ p ∷ after → (units_of true [] tokens ≡ p ∷ after → p.first ≡ true) → p.first ≡ true
parted_first true text next tokens p after is e more = more (subst (λ (b : Bool). units_of b [] tokens ≡ p ∷ after) (is refl) e)
parted_first false text next tokens p after is e more =
    let same : record { text = text; first = true; fault = None } ≡ p = cc (e) in sym (ap (λ (x : Part). x.first) same)

one_first : (q p : Part) (after : List Part) → q ∷ [] ≡ p ∷ after → q.first ≡ p.first
one_first q p after e = let same : q ≡ p = cc (e) in ap (λ (x : Part). x.first) same

head_first : (text : List ℕ) (tokens : List Token) (p : Part) (after : List Part) → units_of true text tokens ≡ p ∷ after → p.first ≡ true
head_first text [] p after e = ended_first (all_white text) text p after e
head_first text (Byte b ∷ tokens) p after e = head_first (text ++ b ∷ []) tokens p after e
head_first text (Whole piece ∷ tokens) p after e = head_first _ tokens p after e
head_first text (Separator b ∷ tokens) p after e =
    parted_first (all_white text) text (next_first true text b) tokens p after (λ white. ap (λ (x : Bool). b == 10 || (true && x)) white ∙ or-true (b == 10)) e (head_first [] tokens p after)
head_first text (Faulty rest ∷ tokens) p after e = sym (one_first _ p after e)

begins_first : (source : Source) → IsBeginning source 0
begins_first (units.Text bytes) request first (p, u, e) = sym e ∙ head_first [] u.are.0 p u.after (sym u.are.2 ∙ u.here)
begins_first (Fault error) request first (z, is, e) = e

between_first : (inside : Option ℕ) (rest : List Part) (p : Part) (after : List Part) → rest ≡ p ∷ after → IsBetween inside rest → (p.first ≡ true) × (inside ≡ None)
between_first inside [] p after e between = absurd (cc (e))
between_first inside (q ∷ qs) p after e between =
    let same : q ≡ p = cc (e) in (sym (ap (λ (x : Part). x.first) same) ∙ between.0, between.1)

-- a unit at the end of a message is the first of another, and no expansion of it has begun
pub end_first : OneList → (source : Source) (place : ℕ) (inside : Option ℕ) → EndsMessage source place inside → (request : Request) (first : Bool) → Asks source place request first → (first ≡ true) × (inside ≡ None)
end_first one (units.Text bytes) place inside (list, are, between) request first (p, u, e) =
    let b = between_first inside (drop place list) p u.after (subst (λ (z : List Part). drop place z ≡ p ∷ u.after) (one bytes u.units list u.are are) u.here) between in (sym e ∙ b.0, b.1)
end_first one (Fault error) place inside ends request first (z, is, e) = (e, ends z)

-- ---- what is not done yet

no_more : (xs : List Effect) (x : Effect) → xs ++ x ∷ [] ≡ [] → ⊥
no_more [] x e = absurd (cc (e))
no_more (y ∷ ys) x e = absurd (cc (e))

resting : (Is : Request → Type 0) (effects : List Effect) (parked : Bool) → Tried Is effects parked → effects ≡ [] → parked ≡ false
resting Is effects parked Untried e = refl
resting Is effects parked (Again {effects = before} t request is effect reply need try n) e = absurd (no_more before effect e)

units_from : (Asked : ℕ → Request → Type 0) (from place : ℕ) (effects : List Effect) → UnitsDone Asked from place effects → from ≤ place
units_from Asked from place effects NoUnit = omega arith
units_from Asked from place effects (Plain {place = last} {effects = before} u unit reply e plain) = let some = units_from Asked from last before u in omega (arith, some)
units_from Asked from place effects (Expanded {place = last} {effects = before} u unit body e inner count within over) = let some = units_from Asked from last before u in omega (arith, some)

units_none : (Asked : ℕ → Request → Type 0) (from place : ℕ) (effects : List Effect) → UnitsDone Asked from place effects → place ≡ from → effects ≡ []
units_none Asked from place effects NoUnit e = refl
units_none Asked from place effects (Plain {place = last} {effects = before} u unit reply f plain) e = let some = units_from Asked from last before u in absurd (omega (arith, some, e))
units_none Asked from place effects (Expanded {place = last} {effects = before} u unit body f inner count within over) e = let some = units_from Asked from last before u in absurd (omega (arith, some, e))

from_place : (Asked : ℕ → Request → Type 0) (from : ℕ) (all : List Effect) (place : ℕ) (parked : Bool) (expansion : Option (List ℕ)) (inside : Option ℕ) → At Asked from all place parked expansion inside → from ≤ place
from_place Asked from all place parked expansion None o = units_from Asked from place o.done o.whole
from_place Asked from all place parked expansion (Some next) w = units_from Asked from place w.done w.whole

-- ---- what is not answered yet

waits_silent : (reply : Reply) (need : Need) → needs reply ≡ Some need → answer_in reply ≡ []
waits_silent Done need e = refl
waits_silent (Answer text) need e = absurd (cc (e))
waits_silent (Error error) need e = refl
waits_silent (Expand body) need e = refl
waits_silent Parked need e = refl
waits_silent Held need e = refl
waits_silent Later need e = refl

tried_silent : (Is : Request → Type 0) (effects : List Effect) (parked : Bool) → Tried Is effects parked → answers effects ≡ []
tried_silent Is effects parked Untried = refl
tried_silent Is effects parked (Again {effects = before} {parked = was} t request is effect reply need try e) =
    answers_append before (effect ∷ []) ∙ ap (λ (l : List (List ℕ)). l ++ answers (effect ∷ [])) (tried_silent Is before was t) ∙ try_gives was request effect reply try ∙ waits_silent reply need e

answers_acts : (effects : List Effect) → answers (acts effects) ≡ answers effects
answers_acts [] = refl
answers_acts (Executed request reply ∷ effects) = ap (λ (l : List (List ℕ)). answer_in reply ++ l) (answers_acts effects)
answers_acts (Settled reply ∷ effects) = ap (λ (l : List (List ℕ)). answer_in reply ++ l) (answers_acts effects)
answers_acts (Sent text last ∷ effects) = answers_acts effects

unanswered : (given : List (List ℕ)) (sent : List ℕ) (text : Text) → MakesBuffer given sent text → given ≡ [] → text.answered ≡ false
unanswered given sent text Begin e = refl
unanswered given sent text (Append {answers = []} {sent = gone} {text = old} m answer) e = absurd (cc (e))
unanswered given sent text (Append {answers = one ∷ more} {sent = gone} {text = old} m answer) e = absurd (cc (e))
unanswered given sent text (Send {answers = all} {sent = before} {text = old} m) e = unanswered all before old m e

not_both : {b : Bool} → b ≡ true → b ≡ false → ⊥
not_both e f = let bad = sym e ∙ f in cc

nothing_buffered : (t : Text) → t.answered ≡ false → t.rest ≡ [] → nothing ≡ t
nothing_buffered t e f = sym (ap (λ (b : Bool). (let u : Text = record { answered = b; rest = t.rest } in u)) e ∙ ap (λ (l : List ℕ). (let u : Text = record { answered = false; rest = l } in u)) f)

silent : (now : List Effect) (text : Text) → ends_text now ≡ false → MakesBuffer (answers now) (text_sent now) text → text.answered ≡ false → IsSilent now
silent now text still m e = let n = no_answer (answers now) (text_sent now) text m e in record { answers = n.unanswered; text = n.unsent; ends = still }

-- ---- the message that has begun

record Now (source : Source) (effects : List Effect) (c : Progress) : Type 0 where
  before : List Effect
  now : List Effect
  from : ℕ
  is : effects ≡ before ++ now
  whole : AreMessages source from before
  begins : IsBeginning source from
  at : At (IsAskedIn source from) from (acts now) c.standing.units c.standing.parked c.expansion c.standing.inside
  unended : ends_text now ≡ false
  makes : MakesBuffer (answers now) (text_sent now) c.text
  clean : acts now ≡ [] → now ≡ []

-- no unit of a message has been tried
fresh : (source : Source) (place : ℕ) (parked : Bool) → parked ≡ false → Outside (IsAskedIn source place) place [] place parked
fresh source place parked e = record { done = []; part = []; is = refl; whole = NoUnit; tries = subst (λ (b : Bool). Tried (IsAskedIn source place place) [] b) (sym e) Untried }

acted : (now : List Effect) (parked : Bool) (request : Request) (effect : Effect) (reply : Reply) → IsTry parked request effect reply → acts (now ++ effect ∷ []) ≡ [] → ⊥
acted now parked request effect reply try e = no_more (acts now) effect (sym (acts_append now (effect ∷ []) ∙ ap (λ (l : List Effect). acts now ++ l) (acts_one parked request effect reply try)) ∙ e)

-- a try of a unit of the message that has begun
continues : (source : Source) (effects : List Effect) (old new : Progress) (request : Request) (effect : Effect) (reply : Reply) → (n : Now source effects old) → IsTry old.standing.parked request effect reply → new.text ≡ text_after old.text reply
    → At (IsAskedIn source n.from) n.from (acts (n.now ++ effect ∷ [])) new.standing.units new.standing.parked new.expansion new.standing.inside → Now source (effects ++ effect ∷ []) new
continues source effects old new request effect reply n try text at =
    let quiet = try_quiet old.standing.parked request effect reply try in
    record {
      before = n.before;
      now = n.now ++ effect ∷ [];
      from = n.from;
      is = ap (λ (l : List Effect). l ++ effect ∷ []) n.is ∙ append_assoc n.before n.now (effect ∷ []);
      whole = n.whole;
      begins = n.begins;
      at = at;
      unended = open_more n.now effect n.unended quiet.1;
      makes = subst (λ (t : Text). MakesBuffer (answers (n.now ++ effect ∷ [])) (text_sent (n.now ++ effect ∷ [])) t) (sym text)
          (added_by n.now old.text effect reply (try_gives old.standing.parked request effect reply try) quiet.0 n.makes);
      clean = λ e. absurd (acted n.now old.standing.parked request effect reply try e);
    }

-- the first try of another message
continues_after : OneList → (source : Source) (effects : List Effect) (old new : Progress) (request : Request) (effect : Effect) (reply : Reply) → (n : Now source effects old) → IsTry old.standing.parked request effect reply → new.text ≡ text_after old.text reply
    → old.text.answered ≡ false → n.from < old.standing.units → UnitsDone (IsAskedIn source n.from) n.from old.standing.units (acts n.now) → Asks source old.standing.units request true
    → At (IsAskedIn source old.standing.units) old.standing.units (acts (effect ∷ [])) new.standing.units new.standing.parked new.expansion new.standing.inside → Now source (effects ++ effect ∷ []) new
continues_after one source effects old new request effect reply n try text clear some done asks at =
    let quiet = try_quiet old.standing.parked request effect reply try in
    let none = no_answer (answers n.now) (text_sent n.now) old.text n.makes clear in
    record {
      before = n.before ++ n.now;
      now = effect ∷ [];
      from = old.standing.units;
      is = ap (λ (l : List Effect). l ++ effect ∷ []) n.is;
      whole = OneMore n.whole old.standing.units n.now (record { some = some; units = done; text = inr (silent n.now old.text n.unended n.makes clear) });
      begins = λ other first also. same_first one source old.standing.units other request first true also asks;
      at = at;
      unended = quiet.1;
      makes = subst (λ (t : Text). MakesBuffer (answers (effect ∷ [])) (text_sent (effect ∷ [])) t) (sym text)
          (added_by [] old.text effect reply (try_gives old.standing.parked request effect reply try) quiet.0 (subst (λ (t : Text). MakesBuffer [] [] t) (nothing_buffered old.text clear none.empty) Begin));
      clean = λ e. absurd (acted [] old.standing.parked request effect reply try e);
    }

-- ---- the execution

abbrev begun_at : ℕ → Bool → Option (List ℕ) → Text → Progress
begun_at place parked expansion text = record { standing = record { units = place; inside = None; parked = parked }; expansion = expansion; text = text }

abbrev tried_at : ℕ → Option ℕ → Bool → Option (List ℕ) → Text → Reply → Progress
tried_at place inside parked expansion text reply = record {
  standing = standing_after (record { units = place; inside = inside; parked = parked }) reply;
  expansion = expansion_after inside expansion reply;
  text = text_after text reply;
}

-- a try of a unit after the first of its message, or of the first unit of another
tries_later : OneList → (source : Source) (effects : List Effect) (place : ℕ) (parked : Bool) (expansion : Option (List ℕ)) (text : Text) (request : Request) (effect : Effect) (reply : Reply) (first : Bool)
    → (n : Now source effects (begun_at place parked expansion text)) → Asks source place request first → (first ≡ true → text.answered ≡ false) → IsTry parked request effect reply → place == n.from ≡ false → (place ≡ n.from → ⊥)
    → Now source (effects ++ effect ∷ []) (tried_at place None parked expansion text reply)
tries_later one source effects place parked expansion text request effect reply false n asks clear try other later =
    continues source effects (begun_at place parked expansion text) (tried_at place None parked expansion text reply) request effect reply n try refl
    (try_outside (IsAskedIn source n.from) n.from n.now place parked expansion request effect reply n.at (subst (λ (b : Bool). Asks source place request b) (sym other) asks) try)
tries_later one source effects place parked expansion text request effect reply true n asks clear try other later =
    let nobody : (requested : Request) → IsAskedIn source n.from place requested → ⊥ = λ requested is. not_both (sym (same_first one source place request requested true (place == n.from) asks is)) other in
    let below = from_place (IsAskedIn source n.from) n.from (acts n.now) place parked expansion None n.at in
    let some : n.from < place = omega (arith, below, later) in
    let rest = resting (IsAskedIn source n.from place) n.at.part parked n.at.tries (untried (IsAskedIn source n.from place) n.at.part parked nobody n.at.tries) in
    continues_after one source effects (begun_at place parked expansion text) (tried_at place None parked expansion text reply) request effect reply n try refl (clear refl) some
    (over_at (IsAskedIn source n.from) n.from (acts n.now) place parked expansion None n.at nobody) asks
    (try_outside (IsAskedIn source place) place [] place parked expansion request effect reply (fresh source place parked rest) (subst (λ (b : Bool). Asks source place request b) (sym (eq-eqb place place refl)) asks) try)

-- a try of a unit that isn't inside an expansion
tries_outside : OneList → (source : Source) (effects : List Effect) (place : ℕ) (parked : Bool) (expansion : Option (List ℕ)) (text : Text) (request : Request) (effect : Effect) (reply : Reply) (first : Bool)
    → Now source effects (begun_at place parked expansion text) → Asks source place request first → (first ≡ true → text.answered ≡ false) → IsTry parked request effect reply
    → Now source (effects ++ effect ∷ []) (tried_at place None parked expansion text reply)
tries_outside one source effects place parked expansion text request effect reply first n asks clear try =
    elim (eqb_tells place n.from) [
      | inl (same, here) ↦ continues source effects (begun_at place parked expansion text) (tried_at place None parked expansion text reply) request effect reply n try refl
          (try_outside (IsAskedIn source n.from) n.from n.now place parked expansion request effect reply n.at
          (subst (λ (b : Bool). Asks source place request b) (n.begins request first (subst (λ (k : ℕ). Asks source k request first) here asks) ∙ sym same) asks) try)
      | inr (other, later) ↦ tries_later one source effects place parked expansion text request effect reply first n asks clear try other later
    ]

tries_at : OneList → (source : Source) (effects : List Effect) (place : ℕ) (inside : Option ℕ) (parked : Bool) (expansion : Option (List ℕ)) (text : Text) (request : Request) (effect : Effect) (reply : Reply)
    → (let old : Progress = record { standing = record { units = place; inside = inside; parked = parked }; expansion = expansion; text = text } in Now source effects old → NextAt source old inside request → IsTry parked request effect reply
    → Now source (effects ++ effect ∷ []) (tried_at place inside parked expansion text reply))
tries_at one source effects place None parked expansion text request effect reply n (first, asks, clear) try = tries_outside one source effects place parked expansion text request effect reply first n asks clear try
tries_at one source effects place (Some next) parked expansion text request effect reply n (body, p, stands, unit) try =
    continues source effects _ (tried_at place (Some next) parked expansion text reply) request effect reply n try refl
    (try_within (IsAskedIn source n.from) n.from n.now place parked expansion next request effect reply n.at (same_body expansion n.at.body body next p request n.at.stands stands unit) try)

-- a message has ended after its last unit
record Closed (source : Source) (from : ℕ) (now : List Effect) (place : ℕ) (parked : Bool) (expansion : Option (List ℕ)) (inside : Option ℕ) : Type 0 where
  some : from < place
  units : UnitsDone (IsAskedIn source from) from place (acts now)
  at : At (IsAskedIn source place) place [] place parked expansion inside

closed : OneList → (source : Source) (from : ℕ) (now : List Effect) (place : ℕ) (parked : Bool) (expansion : Option (List ℕ)) (inside : Option ℕ) (text : Text) → At (IsAskedIn source from) from (acts now) place parked expansion inside
    → EndsMessage source place inside → MakesBuffer (answers now) (text_sent now) text → text.answered ≡ true → Closed source from now place parked expansion inside
closed one source from now place parked expansion None text o ends makes answered =
    let below = from_place (IsAskedIn source from) from (acts now) place parked expansion None o in
    let later : place ≡ from → ⊥ = λ here.
    let none = units_none (IsAskedIn source from) from place o.done o.whole here in
    let none_given : answers now ≡ [] = sym (answers_acts now) ∙ ap answers (o.is ∙ ap (λ (l : List Effect). l ++ o.part) none) ∙ tried_silent (IsAskedIn source from place) o.part parked o.tries in
    not_both answered (unanswered (answers now) (text_sent now) text makes none_given) in
    let nobody : (requested : Request) → IsAskedIn source from place requested → ⊥ = λ requested is. later (eqb-true place from (end_first one source place None ends requested (place == from) is).0) in
    record {
      some = omega (arith, below, later);
      units = over_at (IsAskedIn source from) from (acts now) place parked expansion None o nobody;
      at = fresh source place parked (resting (IsAskedIn source from place) o.part parked o.tries (untried (IsAskedIn source from place) o.part parked nobody o.tries));
    }
closed one source from now place parked expansion (Some next) text w ends makes answered =
    let bad : Some next ≡ None = (end_first one source place (Some next) ends w.first.request (place == from) w.first.is).1 in absurd (cc (bad))

messaging : OneList → PartsAreTheAnswers → (source : Source) (effects : List Effect) (c : Progress) → Reaches source effects c → Now source effects c
messaging one parts source effects c Begins = record {
  before = [];
  now = [];
  from = 0;
  is = refl;
  whole = NoMessage;
  begins = begins_first source;
  at = record { done = []; part = []; is = refl; whole = NoUnit; tries = Untried };
  unended = refl;
  makes = Begin;
  clean = λ e. refl;
}
messaging one parts source effects c (Tries {effects = before} {c = old} m request next effect reply try) =
    tries_at one source before old.standing.units old.standing.inside old.standing.parked old.expansion old.text request effect reply (messaging one parts source before old m) next try
messaging one parts source effects c (Leaves {effects = before} {c = old} m (body, next, stands, place, over)) =
    let n = messaging one parts source before old m in
    record {
      before = n.before;
      now = n.now;
      from = n.from;
      is = n.is;
      whole = n.whole;
      begins = n.begins;
      at = leave_at one (IsAskedIn source n.from) n.from (acts n.now) old.standing.units next old.standing.parked old.expansion body
          (subst (λ (z : Option ℕ). At (IsAskedIn source n.from) n.from (acts n.now) old.standing.units old.standing.parked old.expansion z) place n.at) stands over;
      unended = n.unended;
      makes = n.makes;
      clean = n.clean;
    }
messaging one parts source effects c (Sends {effects = before} {c = old} m begun long) =
    let n = messaging one parts source before old m in
    record {
      before = n.before;
      now = n.now ++ Sent old.text.rest false ∷ [];
      from = n.from;
      is = ap (λ (l : List Effect). l ++ Sent old.text.rest false ∷ []) n.is ∙ append_assoc n.before n.now (Sent old.text.rest false ∷ []);
      whole = n.whole;
      begins = n.begins;
      at = subst (λ (l : List Effect). At (IsAskedIn source n.from) n.from l old.standing.units old.standing.parked old.expansion old.standing.inside) (acts_sent n.now old.text.rest false) n.at;
      unended = open_more n.now (Sent old.text.rest false) n.unended refl;
      makes = parted n.now old.text n.makes;
      clean = λ e. absurd (not_both begun (unanswered (answers n.now) (text_sent n.now) old.text n.makes (ap answers (n.clean (acts_sent n.now old.text.rest false ∙ e)))));
    }
messaging one parts source effects c (Ends {effects = before} {c = old} m ends) =
    let n = messaging one parts source before old m in
    let over = closed one source n.from n.now old.standing.units old.standing.parked old.expansion old.standing.inside old.text n.at ends.ends n.makes ends.answered in
    record {
      before = n.before ++ (n.now ++ Sent (old.text.rest ++ 10 ∷ []) true ∷ []);
      now = [];
      from = old.standing.units;
      is = ap (λ (l : List Effect). l ++ Sent (old.text.rest ++ 10 ∷ []) true ∷ []) n.is ∙ append_assoc n.before n.now (Sent (old.text.rest ++ 10 ∷ []) true ∷ [])
          ∙ sym (append-nil (n.before ++ (n.now ++ Sent (old.text.rest ++ 10 ∷ []) true ∷ [])));
      whole = OneMore n.whole old.standing.units (n.now ++ Sent (old.text.rest ++ 10 ∷ []) true ∷ []) (record {
        some = over.some;
        units = subst (λ (l : List Effect). UnitsDone (IsAskedIn source n.from) n.from old.standing.units l) (acts_sent n.now (old.text.rest ++ 10 ∷ []) true) over.units;
        text = inl (answered parts n.now old.text n.unended n.makes ends.answered);
      });
      begins = λ request first asks. (end_first one source old.standing.units old.standing.inside ends.ends request first asks).0;
      at = over.at;
      unended = refl;
      makes = Begin;
      clean = λ e. refl;
    }

pub all_messages : OneList → PartsAreTheAnswers → (source : Source) (effects : List Effect) (c : Progress) → Reaches source effects c → IsOver source c → AreMessages source c.standing.units effects
all_messages one parts source effects c m over =
    let n = messaging one parts source effects c m in
    let done = over_at (IsAskedIn source n.from) n.from (acts n.now) c.standing.units c.standing.parked c.expansion c.standing.inside n.at (λ request is. no_ask one source c.standing.units request over.units (c.standing.units == n.from, is)) in
    elim (eqb_tells c.standing.units n.from) [
      | inl (same, here) ↦
          let none = n.clean (units_none (IsAskedIn source n.from) n.from c.standing.units (acts n.now) done here) in
          subst (λ (l : List Effect). AreMessages source c.standing.units l) (sym (n.is ∙ ap (λ (l : List Effect). n.before ++ l) none ∙ append-nil n.before)) (subst (λ (k : ℕ). AreMessages source k n.before) (sym here) n.whole)
      | inr (other, later) ↦
          let below = units_from (IsAskedIn source n.from) n.from c.standing.units (acts n.now) done in
          subst (λ (l : List Effect). AreMessages source c.standing.units l) (sym n.is)
          (OneMore n.whole c.standing.units n.now (record { some = omega (arith, below, later); units = done; text = inr (silent n.now c.text n.unended n.makes over.sent) }))
    ]

pub some_messages : OneList → PartsAreTheAnswers → (source : Source) (effects : List Effect) (c : Progress) → Reaches source effects c → AreSomeMessages source effects c.text
some_messages one parts source effects c m =
    let n = messaging one parts source effects c m in
    record { units = n.from; whole = n.before; begun = n.now; is = n.is; messages = n.whole; unended = n.unended; text = parts (answers n.now) (text_sent n.now) c.text n.makes }
