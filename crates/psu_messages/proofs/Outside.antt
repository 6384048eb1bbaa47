-- The units of a transmission, outside expansions.
use Rattle.std.proofs.Common.{◌≡◌, not, ℕ, Bool, true, false, Option, Some, None, is_some, List, [], ◌∷◌, ◌++◌, drop, refl, sym, ap, ◌∙◌, subst, arith, inl, inr}
use Rattle.std.proofs.lemmas.Grind.{common_steps}
use Rattle.psu_lex.specs.Message.{Part}
use Rattle.psu_tree.specs.declared.command.Request.{Request}
use Rattle.psu_replies.specs.Reply.{outcome_of}
use Rattle.psu_replies.specs.declared.outcome.Outcome.{Outcome}
use Rattle.psu_replies.specs.declared.outcome.Outcome.TheVariants as outcome
use Rattle.psu_messages.specs.ResponseBuffer.{Text}
use Rattle.psu_messages.specs.Effects.{Effect, Sent}
use Rattle.psu_messages.specs.Units as units
use Rattle.psu_messages.specs.Units.{Source, Fault, Asks, EndsMessage, HasNone, IsBetween, IsBehind, IsRequest, IsUnit, LeadsToPath, path_at}
use Rattle.psu_messages.specs.Relations.{Relations}
use Rattle.psu_messages.specs.Executions.{Closes, Progress, Advances, IsNext, NextUnit, StopsAt, ended}
use Rattle.psu_messages.specs.Executions.Reaches.{Ends}
use Rattle.psu_messages.specs.Shown.{body_of, progress, progress_of, inside_of}
use Rattle.psu_messages.specs.Turns.{is_expansion}
use Rattle.psu_messages.specs.Stepping.{plain, within}
use Rattle.psu_messages.specs.declared.progress.Progress.{Progress as Rust}
use Rattle.psu_messages.specs.declared.cursor.Cursor.{Cursor}
use Rattle.psu_messages.specs.declared.expansion.Expansion.{Expansion}
use Rattle.psu_messages.proofs.Going.{one, stay}

pub next_plain : (source : Source) (units : ℕ) (parked : Bool) (text : Text) (request : Request) → NextUnit source (plain units parked text) request → IsNext source (plain units parked text) request
next_plain source units parked text request (first, asks, clear) = (first, asks, λ f. clear f refl)

-- a message ends before the first unit of the next
ends_before : (source : Source) (place : ℕ) (request : Request) → Asks source place request true → EndsMessage source place None
ends_before (units.Text bytes) place request (p, unit, first) =
    (unit.units, unit.are, subst (λ (z : List Part). IsBetween None z) (sym unit.here) (first, refl))
ends_before (Fault error) place request asks = λ _. refl

-- after the last unit
pub ends_all : (bytes : List ℕ) (place : ℕ) (inside : Option ℕ) → IsBehind bytes place → EndsMessage (units.Text bytes) place inside
ends_all bytes place inside (list, are, all) =
    let none : drop place list ≡ [] = grind (arith, common_steps) in
    (list, are, subst (λ (z : List Part). IsBetween inside z) (sym none) tt)

pub closes : {X : Type 0} (does : X → Effect → X → Type 0) (source : Source) (was now : X) (c : Progress) (text : Text) → EndsMessage source c.standing.units c.standing.inside → Closes does was c.text now text → Advances does source was c now (progress c.standing c.expansion text)
closes does source was now c text ends (inl (unanswered, same, is)) =
    subst (λ (z : Text). Advances does source was c now (progress c.standing c.expansion z)) (sym is) (stay does source was now c same)
closes does source was now c text ends (inr (answered, grows, is)) =
    subst (λ (z : Text). Advances does source was c now (progress c.standing c.expansion z)) (sym is)
    (one does source was now c (ended c) (Sent (c.text.rest ++ 10 ∷ []) true) grows (λ before b. Ends b (record { ends = ends; answered = answered })))

pub closed : {X : Type 0} (does : X → Effect → X → Type 0) (was now : X) (old new : Text) → Closes does was old now new → new.answered ≡ false
closed does was now old new (inl (unanswered, same, is)) = ap (λ (z : Text). z.answered) is ∙ unanswered
closed does was now old new (inr (answered, grows, is)) = ap (λ (z : Text). z.answered) is

-- the unit that a cursor of a text has read
pub asks_at : (bytes : List ℕ) (place : ℕ) (cursor : Cursor) (part : Part) (request : Request) → cursor.text.now ≡ bytes → cursor.read ≡ place → IsUnit false cursor.text.now cursor.read part request → Asks (units.Text bytes) place request part.first
asks_at bytes place cursor part request text read unit =
    (part, subst (λ (n : ℕ). IsUnit false bytes n part request) read (subst (λ (b : List ℕ). IsUnit false b cursor.read part request) text unit), refl)

pub behind_out : (bytes : List ℕ) (place : ℕ) (cursor : Cursor) → cursor.text.now ≡ bytes → cursor.read ≡ place → IsBehind cursor.text.now cursor.read → IsBehind bytes place
behind_out bytes place cursor text read behind = subst (λ (n : ℕ). IsBehind bytes n) read (subst (λ (b : List ℕ). IsBehind b cursor.read) text behind)

-- ---- the expansion in the next unit's place

-- there is none
pub without : {T : Type 0} (x : Option T) → is_some x ≡ false → x ≡ None
without None e = refl
without (Some y) e = absurd (cc (e))

pub to_plain : {A X : Type 0} (does : X → Effect → X → Type 0) (source : Source) (was now : X) (c : Progress) (units : ℕ) (expansion : Option (Expansion A)) (parked : Bool) (text : Text) → expansion ≡ None → Advances does source was c now (plain units parked text)
    → Advances does source was c now (progress (record { units = units; inside = inside_of expansion; parked = parked }) (body_of expansion) text)
to_plain {A} does source was now c units expansion parked text none advances =
    subst (λ (z : Option (Expansion A)). Advances does source was c now (progress (record { units = units; inside = inside_of z; parked = parked }) (body_of z) text)) (sym none) advances

-- there is one
pub from_within : {A X : Type 0} (does : X → Effect → X → Type 0) (source : Source) (was now : X) (d : Progress) (units : ℕ) (expansion : Option (Expansion A)) (some : Expansion A) (parked : Bool) (text : Text) → expansion ≡ Some some
    → Advances does source was (within units some.body some.done parked text) now d → Advances does source was (progress (record { units = units; inside = inside_of expansion; parked = parked }) (body_of expansion) text) now d
from_within {A} does source was now d units expansion some parked text is advances =
    subst (λ (z : Option (Expansion A)). Advances does source was (progress (record { units = units; inside = inside_of z; parked = parked }) (body_of z) text) now d) (sym is) advances

-- an outcome that isn't an expansion
pub adds_plain : {A : Type 0} (o : Outcome A) → ((body : List ℕ) → o ≡ outcome.Expand body → ⊥) → is_expansion (outcome_of o) ≡ false
adds_plain outcome.Done none = refl
adds_plain (outcome.Answer text) none = refl
adds_plain (outcome.Error error) none = refl
adds_plain (outcome.Expand body) none = absurd (none body refl)
adds_plain outcome.Parked none = refl
adds_plain outcome.Held none = refl
adds_plain outcome.Later none = refl

-- ---- the turn of a unit

pub turn_ends : (source : Source) (place : ℕ) (request : Request) (first : Bool) → Asks source place request first → first ≡ true → EndsMessage source place None
turn_ends source place request first asks e = ends_before source place request (subst (λ (z : Bool). Asks source place request z) e asks)

no_expansion : {A : Type 0} (expansion : Option (Expansion A)) → inside_of expansion ≡ None → expansion ≡ None
no_expansion None e = refl
no_expansion (Some some) e = absurd (cc (e))

pub turn_next : {A W : Type 0} (source : Source) (c : Rust A W) (units : ℕ) (request : Request) (first : Bool) → c.units ≡ units → Asks source units request first → (first ≡ true → c.expansion ≡ None → c.gathered.answered ≡ false) → NextUnit source (progress_of c) request
turn_next source c units request first same asks clear =
    (first, subst (λ (z : ℕ). Asks source z request first) (sym same) asks, λ f none. clear f (no_expansion c.expansion none))

pub not_false : (b : Bool) → not b ≡ false → b ≡ true
not_false true e = refl
not_false false e = absurd (cc (e))

-- where no expansion replaces the next unit
plain_of : {A W : Type 0} (c : Rust A W) → c.expansion ≡ None → progress_of c ≡ plain c.units (is_some c.parked) c.gathered
plain_of c none = ap (λ e. progress (record { units = c.units; inside = inside_of e; parked = is_some c.parked }) (body_of e) c.gathered) none

module _ {A W X : Type 0} (does : X → Effect → X → Type 0) (source : Source) (c : Rust A W) (none : c.expansion ≡ None) where
  pub next_of : (request : Request) → NextUnit source (progress_of c) request → IsNext source (plain c.units (is_some c.parked) c.gathered) request
  next_of request next = next_plain source c.units (is_some c.parked) c.gathered request (subst (λ (z : Progress). NextUnit source z request) (plain_of c none) next)

  pub from_plain : (was now : X) (d : Progress) → Advances does source was (plain c.units (is_some c.parked) c.gathered) now d → Advances does source was (progress_of c) now d
  from_plain was now d advances = subst (λ (z : Progress). Advances does source was z now d) (sym (plain_of c none)) advances

pub stops_plain : {A W X S : Type 0} (r : Relations X S) (source : Source) (c : Rust A W) → c.expansion ≡ None → (was now : X) (stop : S) (left : Text) → StopsAt r source was (plain c.units (is_some c.parked) c.gathered) stop now left
    → StopsAt r source was (progress_of c) stop now left
stops_plain r source c none was now stop left stopped = subst (λ (z : Progress). StopsAt r source was z stop now left) (sym (plain_of c none)) stopped
