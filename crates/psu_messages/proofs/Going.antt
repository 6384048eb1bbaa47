-- Effects, one after another.
use Rattle.std.proofs.Common.{◌≡◌, ℕ, ◌+◌, Bool, false, true, is_some, Option, Some, None, List, [], ◌∷◌, ◌++◌, refl, sym, ap, ◌∙◌, subst, append_assoc, ◌⊎◌, inl, inr, Result, Ok, Err, OnErr, IfErr, IsErrAnd}
use Rattle.std.proofs.lemmas.List.{append-nil}
use Rattle.psu_tree.specs.declared.command.Request.{Request}
use Rattle.psu_replies.specs.Reply.{Reply, Done, Answer, Error, Expand, Parked, Held, Later}
use Rattle.psu_messages.specs.ResponseBuffer.{Text}
use Rattle.psu_messages.specs.Standing.{Standing}
use Rattle.psu_messages.specs.Effects.{Effect, Executed, IsTry, Runs, Sent, Settled, needs}
use Rattle.psu_messages.specs.Stepping.{IsBrokenOff, IsLeft, parked_by, plain, within}
use Rattle.psu_messages.specs.declared.need.Need.{Need}
use Rattle.psu_messages.specs.declared.need.Need.TheVariants.{Flush, Lock, Room}
use Rattle.psu_messages.specs.Units.{Source}
use Rattle.psu_messages.specs.Relations.{Relations}
use Rattle.psu_messages.specs.Executions.{Progress, Reaches, Interruption, Advances, IsUnended, StopsAt, AddsResponse, Trial, IsNext, IsExpanded, IsResponse, tried, outside, sent, standing_after, expansion_after, text_after}
use Rattle.psu_messages.specs.Executions.Reaches.{Tries, Leaves, Sends}
use Rattle.psu_messages.specs.Executions.Interruption.{Failed, Stopped, NotBuffered}
use Rattle.psu_messages.specs.Shown.{progress}
use Rattle.psu_messages.specs.Turns.{IsInside, is_expansion}

runs_on : {X : Type 0} (does : X → Effect → X → Type 0) (xs ys : List Effect) (was mid now : X) → Runs does was xs mid → Runs does mid ys now → Runs does was (xs ++ ys) now
runs_on does [] ys was mid now p q = subst (λ z. Runs does z ys now) p q
runs_on does (x ∷ xs) ys was mid now (next, one_deed, more) q = (next, one_deed, runs_on does xs ys next mid now more q)

pub stay : {X : Type 0} (does : X → Effect → X → Type 0) (source : Source) (was now : X) (c : Progress) → now ≡ was → Advances does source was c now c
stay does source was now c e = record {
  added = [];
  runs = e;
  reaches = λ before b. subst (λ (z : List Effect). Reaches source z c) (sym (append-nil before)) b;
}

pub behind : {X : Type 0} (does : X → Effect → X → Type 0) (source : Source) (was mid now : X) (c d e : Progress) → Advances does source was c mid d → Advances does source mid d now e → Advances does source was c now e
behind does source was mid now c d e p q = record {
  added = p.added ++ q.added;
  runs = runs_on does p.added q.added was mid now p.runs q.runs;
  reaches = λ before b. subst (λ (z : List Effect). Reaches source z e) (append_assoc before p.added q.added) (q.reaches (before ++ p.added) (p.reaches before b));
}

-- one effect
pub one : {X : Type 0} (does : X → Effect → X → Type 0) (source : Source) (was now : X) (c d : Progress) (effect : Effect) → does was effect now → ((before : List Effect) → Reaches source before c → Reaches source (before ++ effect ∷ []) d) → Advances does source was c now d
one does source was now c d effect e advances = record { added = effect ∷ []; runs = (now, e, refl); reaches = advances }

-- no effect
none : {X : Type 0} (does : X → Effect → X → Type 0) (source : Source) (was : X) (c d : Progress) → ((before : List Effect) → Reaches source before c → Reaches source before d) → Advances does source was c was d
none does source was c d advances = record {
  added = [];
  runs = refl;
  reaches = λ before b. subst (λ (z : List Effect). Reaches source z d) (sym (append-nil before)) (advances before b);
}

pub leaves : {X : Type 0} (does : X → Effect → X → Type 0) (source : Source) (was : X) (c : Progress) → IsExpanded c → Advances does source was c was (outside c)
leaves does source was c is = none does source was c (outside c) (λ before b. Leaves b is)

-- a try
pub tries : {X : Type 0} (does : X → Effect → X → Type 0) (source : Source) (was now : X) (c : Progress) (request : Request) (reply : Reply) → IsNext source c request → Trial does was c.standing.parked request now reply → Advances does source was c now (tried c reply)
tries does source was now c request reply next t = one does source was now c (tried c reply) t.effect t.done (λ before b. Tries b request next t.effect reply t.is)

-- a try whose response is gathered
pub adds : {X : Type 0} (does : X → Effect → X → Type 0) (source : Source) (was mid now : X) (c : Progress) (request : Request) (reply : Reply) (text : Text) → IsNext source c request → Trial does was c.standing.parked request mid reply
    → AddsResponse does mid c.text reply now text → Advances does source was c now (progress (standing_after c.standing reply) (expansion_after c.standing.inside c.expansion reply) text)
adds {X} does source was mid now c request reply text next t (inl (short, same, is)) =
    subst (λ (z : X). Advances does source was c z (progress (standing_after c.standing reply) (expansion_after c.standing.inside c.expansion reply) text)) (sym same)
    (subst (λ (z : Text). Advances does source was c mid (progress (standing_after c.standing reply) (expansion_after c.standing.inside c.expansion reply) z)) (sym is)
    (tries does source was mid c request reply next t))
adds {X} does source was mid now c request reply text next t (inr (answered, long, sends, is)) =
    let d : Progress = tried c reply in
    subst (λ (z : Text). Advances does source was c now (progress (standing_after c.standing reply) (expansion_after c.standing.inside c.expansion reply) z)) (sym is)
    (behind does source was mid now c d (sent d) (tries does source was mid c request reply next t) (one does source mid now d (sent d) (Sent d.text.rest false) sends (λ before b. Sends b answered long)))

-- ---- one step

waiting_expansion : (inside : Option ℕ) (expansion : Option (List ℕ)) (reply : Reply) (need : Need) → needs reply ≡ Some need → expansion_after inside expansion reply ≡ expansion
waiting_expansion (Some n) expansion reply need e = refl
waiting_expansion None expansion Done need e = refl
waiting_expansion None expansion (Answer text) need e = refl
waiting_expansion None expansion (Error error) need e = refl
waiting_expansion None expansion (Expand text) need e = absurd (cc (e))
waiting_expansion None expansion Parked need e = refl
waiting_expansion None expansion Held need e = refl
waiting_expansion None expansion Later need e = refl

waiting_text : (text : Text) (reply : Reply) (need : Need) → needs reply ≡ Some need → text_after text reply ≡ text
waiting_text text Done need e = refl
waiting_text text (Answer answer) need e = absurd (cc (e))
waiting_text text (Error error) need e = refl
waiting_text text (Expand body) need e = refl
waiting_text text Parked need e = refl
waiting_text text Held need e = refl
waiting_text text Later need e = refl

waiting_standing : (s : Standing) (reply : Reply) (need : Need) → needs reply ≡ Some need → standing_after s reply ≡ record { units = s.units; inside = s.inside; parked = parked_by need s.parked }
waiting_standing s Done need e = absurd (cc (e))
waiting_standing s (Answer text) need e = absurd (cc (e))
waiting_standing s (Error error) need e = absurd (cc (e))
waiting_standing s (Expand text) need e = absurd (cc (e))
waiting_standing s Parked need e =
    let same : Flush ≡ need = cc (e) in subst (λ (z : Need). standing_after s Parked ≡ record { units = s.units; inside = s.inside; parked = parked_by z s.parked }) same refl
waiting_standing s Held need e =
    let same : Lock ≡ need = cc (e) in subst (λ (z : Need). standing_after s Held ≡ record { units = s.units; inside = s.inside; parked = parked_by z s.parked }) same refl
waiting_standing s Later need e =
    let same : Room ≡ need = cc (e) in subst (λ (z : Need). standing_after s Later ≡ record { units = s.units; inside = s.inside; parked = parked_by z s.parked }) same refl

-- a unit that waits
pub waits : {X : Type 0} (does : X → Effect → X → Type 0) (source : Source) (was now : X) (s : Standing) (later : Bool) (expansion : Option (List ℕ)) (text : Text) (request : Request) (reply : Reply) (need : Need) → IsNext source (progress s expansion text) request
    → Trial does was s.parked request now reply → needs reply ≡ Some need → later ≡ parked_by need s.parked
    → Advances does source was (progress s expansion text) now (progress (record { units = s.units; inside = s.inside; parked = later }) expansion text)
waits does source was now s later expansion text request reply need next t e is =
    subst (λ (z : Bool). Advances does source was (progress s expansion text) now (progress (record { units = s.units; inside = s.inside; parked = z }) expansion text)) (sym is)
    (subst (λ (z : Text). Advances does source was (progress s expansion text) now (progress (record { units = s.units; inside = s.inside; parked = parked_by need s.parked }) expansion z)) (waiting_text text reply need e)
    (subst (λ (z : Option (List ℕ)). Advances does source was (progress s expansion text) now (progress (record { units = s.units; inside = s.inside; parked = parked_by need s.parked }) z (text_after text reply)))
    (waiting_expansion s.inside expansion reply need e)
    (subst (λ (z : Standing). Advances does source was (progress s expansion text) now (progress z (expansion_after s.inside expansion reply) (text_after text reply))) (waiting_standing s reply need e)
    (tries does source was now (progress s expansion text) request reply next t))))

-- a unit of the transmission that has ended
plain_standing : (units : ℕ) (parked : Bool) (reply : Reply) → needs reply ≡ None → is_expansion reply ≡ false → standing_after (record { units = units; inside = None; parked = parked }) reply ≡ record { units = units + 1; inside = None; parked = false }
plain_standing units parked Done e is = refl
plain_standing units parked (Answer text) e is = refl
plain_standing units parked (Error error) e is = refl
plain_standing units parked (Expand text) e is = absurd (cc (is))
plain_standing units parked Parked e is = absurd (cc (e))
plain_standing units parked Held e is = absurd (cc (e))
plain_standing units parked Later e is = absurd (cc (e))

plain_expansion : (reply : Reply) → is_expansion reply ≡ false → expansion_after None None reply ≡ None
plain_expansion Done is = refl
plain_expansion (Answer text) is = refl
plain_expansion (Error error) is = refl
plain_expansion (Expand text) is = absurd (cc (is))
plain_expansion Parked is = refl
plain_expansion Held is = refl
plain_expansion Later is = refl

pub added_plain : {X : Type 0} (does : X → Effect → X → Type 0) (source : Source) (was mid now : X) (units : ℕ) (parked later : Bool) (text after : Text) (request : Request) (reply : Reply) → IsNext source (plain units parked text) request
    → Trial does was parked request mid reply → needs reply ≡ None → later ≡ false → is_expansion reply ≡ false → AddsResponse does mid text reply now after → Advances does source was (plain units parked text) now (plain (units + 1) later after)
added_plain does source was mid now units parked later text after request reply next t e over is adds_it =
    subst (λ (z : Bool). Advances does source was (plain units parked text) now (plain (units + 1) z after)) (sym over)
    (subst (λ (z : Option (List ℕ)). Advances does source was (plain units parked text) now (progress (record { units = units + 1; inside = None; parked = false }) z after)) (plain_expansion reply is)
    (subst (λ (z : Standing). Advances does source was (plain units parked text) now (progress z (expansion_after None None reply) after)) (plain_standing units parked reply e is)
    (adds does source was mid now (plain units parked text) request reply after next t adds_it)))

-- a unit that an expansion replaces
pub replaced : {X : Type 0} (does : X → Effect → X → Type 0) (source : Source) (was now : X) (units : ℕ) (parked later : Bool) (text : Text) (request : Request) (body : List ℕ) → IsNext source (plain units parked text) request
    → Trial does was parked request now (Expand body) → later ≡ false → Advances does source was (plain units parked text) now (within units body 0 later text)
replaced does source was now units parked later text request body next t over =
    subst (λ (z : Bool). Advances does source was (plain units parked text) now (within units body 0 z text)) (sym over) (tries does source was now (plain units parked text) request (Expand body) next t)

-- a unit of an expansion that has ended
within_standing : (units done : ℕ) (parked : Bool) (reply : Reply) → needs reply ≡ None → standing_after (record { units = units; inside = Some done; parked = parked }) reply ≡ record { units = units; inside = Some (done + 1); parked = false }
within_standing units done parked Done e = refl
within_standing units done parked (Answer text) e = refl
within_standing units done parked (Error error) e = refl
within_standing units done parked (Expand text) e = refl
within_standing units done parked Parked e = absurd (cc (e))
within_standing units done parked Held e = absurd (cc (e))
within_standing units done parked Later e = absurd (cc (e))

-- a unit of an expansion is next
pub next_within : (source : Source) (units : ℕ) (body : List ℕ) (done : ℕ) (parked : Bool) (text : Text) (request : Request) → IsInside body done request → IsNext source (within units body done parked text) request
next_within source units body done parked text request (part, unit) = (body, part, refl, unit)

pub added_within : {X : Type 0} (does : X → Effect → X → Type 0) (source : Source) (was mid now : X) (units : ℕ) (body : List ℕ) (done : ℕ) (parked later : Bool) (text after : Text) (request : Request) (reply : Reply) → IsInside body done request
    → Trial does was parked request mid reply → needs reply ≡ None → later ≡ false → AddsResponse does mid text reply now after → Advances does source was (within units body done parked text) now (within units body (done + 1) later after)
added_within does source was mid now units body done parked later text after request reply unit t e over adds_it =
    subst (λ (z : Bool). Advances does source was (within units body done parked text) now (within units body (done + 1) z after)) (sym over)
    (subst (λ (z : Standing). Advances does source was (within units body done parked text) now (progress z (Some body) after)) (within_standing units done parked reply e)
    (adds does source was mid now (within units body done parked text) request reply after (next_within source units body done parked text request unit) t adds_it))

pub on_err : {T E : Type 0} (r : Result T E) (P : Type 0) → P → OnErr r P
on_err (Ok x) P p = tt
on_err (Err e) P p = p

-- the reason of a stop is passed on
pub passed_on : {T E : Type 0} (r : Result T E) (e : E) (P : E → Type 0) → IsErrAnd r (λ reason. reason ≡ e) → P e → IfErr r P
passed_on (Ok x) e P is p = tt
passed_on (Err reason) e P is p = subst P (sym is) p

-- ---- stops

module _ {X S : Type 0} {r : Relations X S} {source : Source} where
  pub stops_on : {was mid now : X} {c d : Progress} {stop : S} {left : Text} → Advances r.does source was c mid d → StopsAt r source mid d stop now left → StopsAt r source was c stop now left
  stops_on {was} {mid} {now} {c} {d} advances s = record { mid = s.mid; new = s.new; advances = behind r.does source was mid s.mid c d s.new advances s.advances; interruption = s.interruption; text = s.text }

  -- at the present point, with something that is to be ended
  pub some_stop : {was now : X} {c : Progress} {stop : S} {left : Text} → IsUnended c → r.stops was stop now → left ≡ c.text → StopsAt r source was c stop now left
  some_stop {was} {now} {c} begun s same = record { mid = was; new = c; advances = stay r.does source was was c refl; interruption = Stopped begun s; text = same }

  -- in the next unit
  pub broken_off : {was now : X} {c : Progress} (request : Request) {stop : S} {left : Text} → IsNext source c request → IsBrokenOff r was c.standing.parked request stop now → left ≡ c.text
      → StopsAt r source was c stop now left
  broken_off {was} {now} {c} request next (inl (parked, failed)) same = record { mid = was; new = c; advances = stay r.does source was was c refl; interruption = Failed request next parked failed; text = same }
  broken_off {was} {now} {c} request next (inr (parked, s)) same = some_stop (inr (inl parked)) s same

  -- after the next unit, whose response is gathered or is not
  pub not_buffered : {was mid now : X} {c : Progress} {request : Request} {reply : Reply} {stop : S} {left : Text} → IsNext source c request → Trial r.does was c.standing.parked request mid reply → r.stops mid stop now → IsLeft c.text reply left → IsResponse reply
      → StopsAt r source was c stop now left
  not_buffered {was} {mid} {now} {c} {request} {reply} next t s (inl same) (response, is) =
      let try = subst (IsTry c.standing.parked request t.effect) is t.is in
      record { mid = was; new = c; advances = stay r.does source was was c refl; interruption = NotBuffered mid request next t.effect response try t.done s; text = same }
  not_buffered {was} {mid} {now} {c} {request} {reply} next t s (inr (same, answered)) response =
      record { mid = mid; new = tried c reply; advances = tries r.does source was mid c request reply next t; interruption = Stopped (inl (ap (λ (x : Text). x.answered) (sym same) ∙ answered)) s; text = same }

-- the point that it had reached
pub reached : {X S : Type 0} {r : Relations X S} {source : Source} {was now : X} {c : Progress} {stop : S} {left : Text} → StopsAt r source was c stop now left
    → (mid : X) × (d : Progress) × Advances r.does source was c mid d × (((request : Request) × r.fails mid request stop now) ⊎ r.stops mid stop now)
reached {X} {S} {r} {source} {was} {now} {c} {stop} {left} h = by h.interruption where
  by : Interruption r source h.mid h.new stop now → (mid : X) × (d : Progress) × Advances r.does source was c mid d × (((request : Request) × r.fails mid request stop now) ⊎ r.stops mid stop now)
  by (Failed request next parked f) = (h.mid, h.new, h.advances, inl (request, f))
  by (Stopped begun s) = (h.mid, h.new, h.advances, inr s)
  by (NotBuffered here request next effect response try d s) =
      let reply = Answer response in
      (here, tried h.new reply, behind r.does source was h.mid here c h.new (tried h.new reply) h.advances (one r.does source h.mid here h.new (tried h.new reply) effect d (λ before b. Tries b request next effect reply try)), inr s)

-- ---- what each effect leaves unchanged

kept : {X Y : Type 0} (does : X → Effect → X → Type 0) (part : X → Y) → ((x y : X) (effect : Effect) → does x effect y → part y ≡ part x) → (x : X) (effects : List Effect) (y : X) → Runs does x effects y → part y ≡ part x
kept does part keeps x [] y same = ap part same
kept does part keeps x (effect ∷ effects) y runs = kept does part keeps runs.0 effects y runs.2 ∙ keeps x runs.0 effect runs.1

pub kept_advances : {X Y : Type 0} {does : X → Effect → X → Type 0} {source : Source} {x y : X} {c d : Progress} → Advances does source x c y d → (part : X → Y) → ((x y : X) (effect : Effect) → does x effect y → part y ≡ part x) → part y ≡ part x
kept_advances {X} {Y} {does} {source} {x} {y} advances part keeps = kept does part keeps x advances.added y advances.runs

-- also if the execution stopped
pub kept_interrupted : {X Y S : Type 0} {r : Relations X S} {source : Source} {was now : X} {c : Progress} {stop : S} {left : Text} → StopsAt r source was c stop now left
    → (part : X → Y) → ((x y : X) (effect : Effect) → r.does x effect y → part y ≡ part x) → ((x y : X) (request : Request) (stop : S) → r.fails x request stop y → part y ≡ part x) → ((x y : X) (stop : S) → r.stops x stop y → part y ≡ part x) → part now ≡ part was
kept_interrupted {X} {Y} {S} {r} {source} {was} {now} {c} {stop} {left} halts part done failed stopped =
    let r = reached halts in
    let before = kept_advances r.2 part done in
    elim (r.3) [ inl f ↦ failed r.0 now f.0 stop f.1 ∙ before | inr s ↦ stopped r.0 now stop s ∙ before ]

-- ---- a try

-- a try of a unit, by what it does where the unit was accepted and where it was not
pub one_trial : {X W : Type 0} (does : X → Effect → X → Type 0) (at now : X) (parked : Option W) (request : Request) (reply : Reply) → (parked ≡ None → does at (Executed request reply) now) → (is_some parked ≡ true → does at (Settled reply) now)
    → Trial does at (is_some parked) request now reply
one_trial does at now None request reply new again = record { effect = Executed request reply; done = new refl; is = (refl, refl) }
one_trial does at now (Some wait) request reply new again = record { effect = Settled reply; done = again refl; is = refl }
