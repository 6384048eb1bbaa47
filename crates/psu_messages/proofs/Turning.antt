-- The units of a transmission, each executed to its end.
use Rattle.std.proofs.Common.{◌≡◌, ℕ, ◌+◌, ◌≤◌, Bool, true, false, Option, Some, None, List, [], ◌∷◌, ◌++◌, length, drop, refl, sym, ap, ◌∙◌, subst, append_assoc, arith}
use Rattle.std.proofs.lemmas.List.{append-nil}
use Rattle.std.proofs.lemmas.Grind.{common_steps}
use Rattle.psu_lex.specs.Message.{Part, IsMessage}
use Rattle.psu_tree.specs.declared.command.Request.{Request}
use Rattle.psu_replies.specs.Reply.{Reply, Done, Answer, Error, Expand, Parked, Held, Later}
use Rattle.psu_messages.specs.ResponseBuffer.{Text}
use Rattle.psu_messages.specs.Standing.{Standing}
use Rattle.psu_messages.specs.declared.need.Need.{Need}
use Rattle.psu_messages.specs.declared.need.Need.TheVariants.{Flush, Lock, Room}
use Rattle.psu_messages.specs.Effects.{Effect, Executed, Settled, Sent, IsTry, needs}
use Rattle.psu_messages.specs.Units as units
use Rattle.psu_messages.specs.Units.{Asks, Fault, HasNone, IsBehind, IsUnit, Source}
use Rattle.psu_messages.specs.Executions.{Reaches, Progress, IsOver, NextAt, expansion_after, standing_after}
use Rattle.psu_messages.specs.Executions.Reaches.{Begins, Tries, Leaves, Sends, Ends}
use Rattle.psu_messages.specs.Turns.{Ended, InsideDone, IsAsked, IsInside, Tried, UnitsDone, accepts, acts, is_expansion}
use Rattle.psu_messages.specs.Turns.Tried.{Untried, Again}
use Rattle.psu_messages.specs.Turns.InsideDone.{NoneInside, OneInside}
use Rattle.psu_messages.specs.Turns.UnitsDone.{NoUnit, Plain, Expanded}

abbrev pub OneList : Type 0
OneList = (bytes : List ℕ) (all others : List Part) → IsMessage bytes all → IsMessage bytes others → all ≡ others

-- ---- no unit is left

no_part : (list : List Part) (place : ℕ) (p : Part) (after : List Part) → length list ≤ place → drop place list ≡ p ∷ after → ⊥
no_part list place p after all here =
    let none : drop place list ≡ [] = grind (arith, common_steps) in
    let same : [] ≡ p ∷ after = sym none ∙ here in cc (same)

pub no_unit : OneList → (inside : Bool) (bytes : List ℕ) (place : ℕ) (p : Part) (request : Request) → IsBehind bytes place → IsUnit inside bytes place p request → ⊥
no_unit one inside bytes place p request (list, are, all) unit =
    no_part list place p unit.after all (subst (λ (z : List Part). drop place z ≡ p ∷ unit.after) (one bytes unit.units list unit.are are) unit.here)

pub no_ask : OneList → (source : Source) (place : ℕ) (request : Request) → HasNone source place → IsAsked source place request → ⊥
no_ask one (units.Text bytes) place request none (first, (p, unit, e)) = no_unit one false bytes place p request none unit
no_ask one (Fault error) place request none (first, (zero_place, is, e)) = omega arith

pub untried : (Is : Request → Type 0) (effects : List Effect) (parked : Bool) → ((request : Request) → Is request → ⊥) → Tried Is effects parked → effects ≡ []
untried Is effects parked nobody Untried = refl
untried Is effects parked nobody (Again t request is effect reply need try e) = absurd (nobody request is)

-- ---- lists of effects

pub acts_append : (xs ys : List Effect) → acts (xs ++ ys) ≡ acts xs ++ acts ys
acts_append [] ys = refl
acts_append (Executed request reply ∷ xs) ys = ap (λ (l : List Effect). Executed request reply ∷ l) (acts_append xs ys)
acts_append (Settled reply ∷ xs) ys = ap (λ (l : List Effect). Settled reply ∷ l) (acts_append xs ys)
acts_append (Sent text last ∷ xs) ys = acts_append xs ys

pub acts_sent : (xs : List Effect) (text : List ℕ) (last : Bool) → acts xs ≡ acts (xs ++ Sent text last ∷ [])
acts_sent xs text last = sym (acts_append xs (Sent text last ∷ []) ∙ append-nil (acts xs))

pub acts_one : (parked : Bool) (request : Request) (effect : Effect) (reply : Reply) → IsTry parked request effect reply → acts (effect ∷ []) ≡ effect ∷ []
acts_one false request (Executed other answer) reply is = refl
acts_one false request (Settled answer) reply none = absurd none
acts_one false request (Sent text last) reply none = absurd none
acts_one true request (Executed other answer) reply none = absurd none
acts_one true request (Settled answer) reply is = refl
acts_one true request (Sent text last) reply none = absurd none

acts_try : (effects front part : List Effect) (parked : Bool) (request : Request) (effect : Effect) (reply : Reply) → IsTry parked request effect reply → acts effects ≡ front ++ part → acts (effects ++ effect ∷ []) ≡ front ++ (part ++ effect ∷ [])
acts_try effects front part parked request effect reply try is =
    acts_append effects (effect ∷ []) ∙ ap (λ (l : List Effect). acts effects ++ l) (acts_one parked request effect reply try) ∙ ap (λ (l : List Effect). l ++ effect ∷ []) is ∙ append_assoc front part (effect ∷ [])

-- ---- the progress of the units

pub record Outside (Asked : ℕ → Request → Type 0) (from : ℕ) (all : List Effect) (place : ℕ) (parked : Bool) : Type 0 where
  pub done : List Effect
  pub part : List Effect
  pub is : all ≡ done ++ part
  pub whole : UnitsDone Asked from place done
  pub tries : Tried (Asked place) part parked

pub record Within (Asked : ℕ → Request → Type 0) (from : ℕ) (all : List Effect) (place : ℕ) (parked : Bool) (expansion : Option (List ℕ)) (next : ℕ) : Type 0 where
  pub done : List Effect
  pub unit : List Effect
  pub inner : List Effect
  pub part : List Effect
  pub body : List ℕ
  pub is : all ≡ (done ++ (unit ++ inner)) ++ part
  pub whole : UnitsDone Asked from place done
  pub stands : expansion ≡ Some body
  pub first : Ended (Asked place) unit (Expand body)
  pub within : InsideDone body next inner
  pub tries : Tried (IsInside body next) part parked

abbrev pub At : (ℕ → Request → Type 0) → ℕ → List Effect → ℕ → Bool → Option (List ℕ) → Option ℕ → Type 0
At Asked from all place parked expansion None = Outside Asked from all place parked
At Asked from all place parked expansion (Some next) = Within Asked from all place parked expansion next

ended : (Is : Request → Type 0) (part : List Effect) (parked : Bool) (request : Request) (effect : Effect) (reply : Reply) → Tried Is part parked → Is request → IsTry parked request effect reply → needs reply ≡ None → Ended Is (part ++ effect ∷ []) reply
ended Is part parked request effect reply t is try e = record { tries = part; parked = parked; tried = t; request = request; is = is; effect = effect; last = try; ends = e; all = refl }

-- ---- a try outside

stays_outside : (Asked : ℕ → Request → Type 0) (from : ℕ) (effects : List Effect) (place : ℕ) (parked : Bool) (request : Request) (effect : Effect) (reply : Reply) (need : Need) → Outside Asked from (acts effects) place parked → Asked place request → IsTry parked request effect reply
    → needs reply ≡ Some need → Outside Asked from (acts (effects ++ effect ∷ [])) place (accepts parked reply)
stays_outside Asked from effects place parked request effect reply need o asks try e = record {
  done = o.done;
  part = o.part ++ effect ∷ [];
  is = acts_try effects o.done o.part parked request effect reply try o.is;
  whole = o.whole;
  tries = Again o.tries request asks effect reply need try e;
}

passes_outside : (Asked : ℕ → Request → Type 0) (from : ℕ) (effects : List Effect) (place : ℕ) (parked : Bool) (request : Request) (effect : Effect) (reply : Reply) → Outside Asked from (acts effects) place parked → Asked place request → IsTry parked request effect reply
    → needs reply ≡ None → is_expansion reply ≡ false → Outside Asked from (acts (effects ++ effect ∷ [])) (place + 1) false
passes_outside Asked from effects place parked request effect reply o asks try e plain =
    let next : UnitsDone Asked from (place + 1) (o.done ++ (o.part ++ effect ∷ [])) = Plain o.whole (o.part ++ effect ∷ []) reply (ended (Asked place) o.part parked request effect reply o.tries asks try e) plain in
    record {
      done = o.done ++ (o.part ++ effect ∷ []);
      part = [];
      is = acts_try effects o.done o.part parked request effect reply try o.is ∙ sym (append-nil (o.done ++ (o.part ++ effect ∷ [])));
      whole = next;
      tries = Untried;
    }

pub try_outside : (Asked : ℕ → Request → Type 0) (from : ℕ) (effects : List Effect) (place : ℕ) (parked : Bool) (expansion : Option (List ℕ)) (request : Request) (effect : Effect) (reply : Reply) → Outside Asked from (acts effects) place parked → Asked place request
    → IsTry parked request effect reply
    → (let s : Standing = standing_after (record { units = place; inside = None; parked = parked }) reply in At Asked from (acts (effects ++ effect ∷ [])) s.units s.parked (expansion_after None expansion reply) s.inside)
try_outside Asked from effects place parked expansion request effect Done o asks try = passes_outside Asked from effects place parked request effect Done o asks try refl refl
try_outside Asked from effects place parked expansion request effect (Answer text) o asks try = passes_outside Asked from effects place parked request effect (Answer text) o asks try refl refl
try_outside Asked from effects place parked expansion request effect (Error error) o asks try = passes_outside Asked from effects place parked request effect (Error error) o asks try refl refl
try_outside Asked from effects place parked expansion request effect (Expand body) o asks try = record {
  done = o.done;
  unit = o.part ++ effect ∷ [];
  inner = [];
  part = [];
  body = body;
  is = acts_try effects o.done o.part parked request effect (Expand body) try o.is ∙ ap (λ (l : List Effect). o.done ++ l) (sym (append-nil (o.part ++ effect ∷ []))) ∙ sym (append-nil (o.done ++ ((o.part ++ effect ∷ []) ++ [])));
  whole = o.whole;
  stands = refl;
  first = ended (Asked place) o.part parked request effect (Expand body) o.tries asks try refl;
  within = NoneInside;
  tries = Untried;
}
try_outside Asked from effects place parked expansion request effect Parked o asks try = stays_outside Asked from effects place parked request effect Parked Flush o asks try refl
try_outside Asked from effects place parked expansion request effect Held o asks try = stays_outside Asked from effects place parked request effect Held Lock o asks try refl
try_outside Asked from effects place parked expansion request effect Later o asks try = stays_outside Asked from effects place parked request effect Later Room o asks try refl

-- ---- a try in an expansion

stays_within : (Asked : ℕ → Request → Type 0) (from : ℕ) (effects : List Effect) (place : ℕ) (parked : Bool) (expansion : Option (List ℕ)) (next : ℕ) (request : Request) (effect : Effect) (reply : Reply) (need : Need) → (w : Within Asked from (acts effects) place parked expansion next)
    → IsInside w.body next request → IsTry parked request effect reply → needs reply ≡ Some need → Within Asked from (acts (effects ++ effect ∷ [])) place (accepts parked reply) expansion next
stays_within Asked from effects place parked expansion next request effect reply need w asks try e = record {
  done = w.done;
  unit = w.unit;
  inner = w.inner;
  part = w.part ++ effect ∷ [];
  body = w.body;
  is = acts_try effects (w.done ++ (w.unit ++ w.inner)) w.part parked request effect reply try w.is;
  whole = w.whole;
  stands = w.stands;
  first = w.first;
  within = w.within;
  tries = Again w.tries request asks effect reply need try e;
}

longer : (done unit inner more : List Effect) → (done ++ (unit ++ inner)) ++ more ≡ done ++ (unit ++ (inner ++ more))
longer done unit inner more = append_assoc done (unit ++ inner) more ∙ ap (λ (l : List Effect). done ++ l) (append_assoc unit inner more)

passes_within : (Asked : ℕ → Request → Type 0) (from : ℕ) (effects : List Effect) (place : ℕ) (parked : Bool) (expansion : Option (List ℕ)) (next : ℕ) (request : Request) (effect : Effect) (reply : Reply) → (w : Within Asked from (acts effects) place parked expansion next)
    → IsInside w.body next request → IsTry parked request effect reply → needs reply ≡ None → Within Asked from (acts (effects ++ effect ∷ [])) place false expansion (next + 1)
passes_within Asked from effects place parked expansion next request effect reply w asks try e =
    let more : List Effect = w.part ++ effect ∷ [] in
    record {
      done = w.done;
      unit = w.unit;
      inner = w.inner ++ (w.part ++ effect ∷ []);
      part = [];
      body = w.body;
      is = acts_try effects (w.done ++ (w.unit ++ w.inner)) w.part parked request effect reply try w.is ∙ longer w.done w.unit w.inner (w.part ++ effect ∷ []) ∙ sym (append-nil (w.done ++ (w.unit ++ (w.inner ++ (w.part ++ effect ∷ [])))));
      whole = w.whole;
      stands = w.stands;
      first = w.first;
      within = OneInside w.within (w.part ++ effect ∷ []) reply (ended (IsInside w.body next) w.part parked request effect reply w.tries asks try e);
      tries = Untried;
    }

pub try_within : (Asked : ℕ → Request → Type 0) (from : ℕ) (effects : List Effect) (place : ℕ) (parked : Bool) (expansion : Option (List ℕ)) (next : ℕ) (request : Request) (effect : Effect) (reply : Reply) → (w : Within Asked from (acts effects) place parked expansion next)
    → IsInside w.body next request → IsTry parked request effect reply
    → (let s : Standing = standing_after (record { units = place; inside = Some next; parked = parked }) reply in At Asked from (acts (effects ++ effect ∷ [])) s.units s.parked (expansion_after (Some next) expansion reply) s.inside)
try_within Asked from effects place parked expansion next request effect Done w asks try = passes_within Asked from effects place parked expansion next request effect Done w asks try refl
try_within Asked from effects place parked expansion next request effect (Answer text) w asks try = passes_within Asked from effects place parked expansion next request effect (Answer text) w asks try refl
try_within Asked from effects place parked expansion next request effect (Error error) w asks try = passes_within Asked from effects place parked expansion next request effect (Error error) w asks try refl
try_within Asked from effects place parked expansion next request effect (Expand body) w asks try = passes_within Asked from effects place parked expansion next request effect (Expand body) w asks try refl
try_within Asked from effects place parked expansion next request effect Parked w asks try = stays_within Asked from effects place parked expansion next request effect Parked Flush w asks try refl
try_within Asked from effects place parked expansion next request effect Held w asks try = stays_within Asked from effects place parked expansion next request effect Held Lock w asks try refl
try_within Asked from effects place parked expansion next request effect Later w asks try = stays_within Asked from effects place parked expansion next request effect Later Room w asks try refl

-- ---- the execution

pub same_body : (expansion : Option (List ℕ)) (body other : List ℕ) (place : ℕ) (p : Part) (request : Request) → expansion ≡ Some body → expansion ≡ Some other → IsUnit true other place p request → IsInside body place request
same_body expansion body other place p request e f unit =
    let both : Some body ≡ Some other = sym e ∙ f in
    let same : other ≡ body = cc (both) in (p, subst (λ (z : List ℕ). IsUnit true z place p request) same unit)

try_at : (source : Source) (effects : List Effect) (place : ℕ) (inside : Option ℕ) (parked : Bool) (expansion : Option (List ℕ)) (text : Text) (request : Request) (effect : Effect) (reply : Reply)
    → At (IsAsked source) 0 (acts effects) place parked expansion inside → NextAt source (record { standing = record { units = place; inside = inside; parked = parked }; expansion = expansion; text = text }) inside request → IsTry parked request effect reply
    → (let s : Standing = standing_after (record { units = place; inside = inside; parked = parked }) reply in At (IsAsked source) 0 (acts (effects ++ effect ∷ [])) s.units s.parked (expansion_after inside expansion reply) s.inside)
try_at source effects place None parked expansion text request effect reply o (first, asks, clear) try = try_outside (IsAsked source) 0 effects place parked expansion request effect reply o (first, asks) try
try_at source effects place (Some next) parked expansion text request effect reply w (body, p, stands, unit) try =
    try_within (IsAsked source) 0 effects place parked expansion next request effect reply w (same_body expansion w.body body next p request w.stands stands unit) try

pub leave_at : OneList → (Asked : ℕ → Request → Type 0) (from : ℕ) (all : List Effect) (place next : ℕ) (parked : Bool) (expansion : Option (List ℕ)) (body : List ℕ) → Within Asked from all place parked expansion next → expansion ≡ Some body → IsBehind body next
    → Outside Asked from all (place + 1) false
leave_at one Asked from all place next parked expansion body w stands over =
    let both : Some body ≡ Some w.body = sym stands ∙ w.stands in
    let same : body ≡ w.body = cc (both) in
    let behind : IsBehind w.body next = subst (λ (z : List ℕ). IsBehind z next) same over in
    let none : w.part ≡ [] = untried (IsInside w.body next) w.part parked (λ request is. no_unit one true w.body next is.0 request behind is.1) w.tries in
    record {
      done = w.done ++ (w.unit ++ w.inner);
      part = [];
      is = w.is ∙ ap (λ (l : List Effect). (w.done ++ (w.unit ++ w.inner)) ++ l) none;
      whole = Expanded w.whole w.unit w.body w.first w.inner next w.within behind;
      tries = Untried;
    }

abbrev Is : Source → List Effect → Progress → Type 0
Is source effects c = At (IsAsked source) 0 (acts effects) c.standing.units c.standing.parked c.expansion c.standing.inside

turning : OneList → (source : Source) → (effects : List Effect) (c : Progress) → Reaches source effects c → Is source effects c
turning one source effects c Begins = record { done = []; part = []; is = refl; whole = NoUnit; tries = Untried }
turning one source effects c (Tries {effects = before} {c = old} m request next effect reply try) =
    try_at source before old.standing.units old.standing.inside old.standing.parked old.expansion old.text request effect reply (turning one source before old m) next try
turning one source effects c (Leaves {effects = before} {c = old} m (body, next, stands, place, over)) =
    leave_at one (IsAsked source) 0 (acts before) old.standing.units next old.standing.parked old.expansion body
    (subst (λ (z : Option ℕ). At (IsAsked source) 0 (acts before) old.standing.units old.standing.parked old.expansion z) place (turning one source before old m)) stands over
turning one source effects c (Sends {effects = before} {c = old} m begun long) =
    subst (λ (l : List Effect). At (IsAsked source) 0 l old.standing.units old.standing.parked old.expansion old.standing.inside) (acts_sent before old.text.rest false) (turning one source before old m)
turning one source effects c (Ends {effects = before} {c = old} m ends) =
    subst (λ (l : List Effect). At (IsAsked source) 0 l old.standing.units old.standing.parked old.expansion old.standing.inside) (acts_sent before (old.text.rest ++ 10 ∷ []) true) (turning one source before old m)

pub over_at : (Asked : ℕ → Request → Type 0) (from : ℕ) (all : List Effect) (place : ℕ) (parked : Bool) (expansion : Option (List ℕ)) (inside : Option ℕ) → At Asked from all place parked expansion inside → ((request : Request) → Asked place request → ⊥) → UnitsDone Asked from place all
over_at Asked from all place parked expansion None o none =
    let empty : o.part ≡ [] = untried (Asked place) o.part parked none o.tries in
    subst (λ (l : List Effect). UnitsDone Asked from place l) (sym (o.is ∙ ap (λ (l : List Effect). o.done ++ l) empty ∙ append-nil o.done)) o.whole
over_at Asked from all place parked expansion (Some next) w none = absurd (none w.first.request w.first.is)

pub all_done : OneList → (source : Source) (effects : List Effect) (c : Progress) → Reaches source effects c → IsOver source c → UnitsDone (IsAsked source) 0 c.standing.units (acts effects)
all_done one source effects c m over =
    over_at (IsAsked source) 0 (acts effects) c.standing.units c.standing.parked c.expansion c.standing.inside (turning one source effects c m) (λ request is. no_ask one source c.standing.units request over.units is)
