-- The effects of a transmission as calls of the device and frames of responses.
use Rattle.std.proofs.Common.{◌≡◌, Option, Some, None, IfSome, ◌-◌, ℕ, arith, List, [], ◌∷◌, ◌++◌, refl, sym, ap, ◌∙◌, subst, append_assoc}
use Rattle.std.proofs.lemmas.List.{append-nil}
use Rattle.psu_hislip.specs.Answer.{answer_size}
use Rattle.psu_hislip.specs.Core.{Core}
use Rattle.psu_hislip.specs.declared.action.Origin.{Origin}
use Rattle.psu_messages.specs.Executions.{Reaches, Progress, Advances}
use Rattle.psu_messages.specs.Effects as messages
use Rattle.psu_messages.specs.Effects.{Effect, needs}
use Rattle.psu_messages.specs.declared.need.Need.{Need}
use Rattle.psu_messages.specs.declared.need.Need.TheVariants.{Turn}
use Rattle.psu_replies.specs.Reply.{Reply, Done, Answer, Error, Expand, Parked, Held, Later}
use Rattle.psu_messages.specs.Units.{Source}
use Rattle.psu_session.specs.Orders as orders
use Rattle.psu_session.specs.Orders.{effects, frames}
use Rattle.psu_session.specs.Events.{Call, call_of, calls}
use Rattle.psu_session.specs.Phases.{tries, tries_by}
use Rattle.psu_session.specs.Step.{AreFramed, happened}
use Rattle.psu_session.specs.Serving.{AdvancesOrder, Puts, Runs}

module _ {X V : Type 0} {does : X → Effect → X → Type 0} (made : V → Call → V → Type 0) (core : X → Core) (origin : X → Origin) (out : X → List ℕ) (device : X → V) (units : X → ℕ)
    (step : (x y : X) (effect : Effect) → does x effect y → (units y ≡ units x - tries_by (call_of effect)) × (core y ≡ core x) × (origin y ≡ origin x) × Puts (core x) (origin x) effect (out x) (out y) × made (device x) (call_of effect) (device y)) where
  record Through (x : X) (added : List Effect) (y : X) : Type 0 where
    done : List orders.Done
    are : effects done ≡ added
    framed : AreFramed (answer_size (core x).size) (origin x).id done
    output : out y ≡ out x ++ frames done
    runs : (o : Origin) → Runs made (device x) (calls (happened o done)) (device y)
    counted : (o : Origin) → units y ≡ units x - tries (calls (happened o done))

  through : (x : X) (added : List Effect) (y : X) → messages.Runs does x added y → Through x added y
  through x [] y same = record { done = []; are = refl; framed = tt; output = ap out same ∙ sym (append-nil (out x)); runs = λ o. ap device same; counted = λ o. omega (arith, ap units same) }
  through x (effect ∷ added) y (mid, d, more) =
      let s = step x mid effect d in
      let puts = s.3 in
      let rest = through mid added y more in
      let first : orders.Done = record { effect = effect; frames = puts.0 } in
      record {
        done = first ∷ rest.done;
        are = ap (λ (z : List Effect). effect ∷ z) rest.are;
        framed = (
          puts.1,
          subst (λ (z : Origin). AreFramed (answer_size (core x).size) z.id rest.done) s.2 (subst (λ (z : Core). AreFramed (answer_size z.size) (origin mid).id rest.done) s.1 rest.framed),
        );
        output = rest.output ∙ ap (λ (z : List ℕ). z ++ frames rest.done) puts.2 ∙ append_assoc (out x) puts.0 (frames rest.done);
        runs = λ o. (device mid, s.4, rest.runs o);
        counted = λ o. omega (arith, s.0, rest.counted o);
      }

  pub advanced : {source : Source} {x y : X} {c d : Progress} → Advances does source x c y d → (at : Origin) → at ≡ origin x
      → AdvancesOrder made (core x) (record { origin = at; source = source }) c (out x) (device x) d (out y) (device y) (units x) (units y)
  advanced {source} {x} {y} {c} {d} advances at here =
      let t = through x advances.added y advances.runs in
      record {
        effects_done = t.done;
        reaches = λ before b. subst (λ (z : List Effect). Reaches source (before ++ z) d) (sym t.are) (advances.reaches before b);
        framed = subst (λ (z : Origin). AreFramed (answer_size (core x).size) z.id t.done) (sym here) t.framed;
        output = t.output;
        runs = t.runs at;
        counted = t.counted at;
      }

-- ---- others are let in

never_turn : (reply : Reply) → needs reply ≡ Some Turn → ⊥
never_turn Done e = absurd (cc (e))
never_turn (Answer text) e = absurd (cc (e))
never_turn (Error error) e = absurd (cc (e))
never_turn (Expand text) e = absurd (cc (e))
never_turn Parked e = absurd (cc (e))
never_turn Held e = absurd (cc (e))
never_turn Later e = absurd (cc (e))

pub not_turn : (reply : Reply) (need : Need) → need ≡ Turn → needs reply ≡ Some need → ⊥
not_turn reply need turn waits = never_turn reply (waits ∙ ap Some turn)

pub on_some : {T : Type 0} {P Q : T → Type 0} (o : Option T) → ((x : T) → P x → Q x) → IfSome o P → IfSome o Q
on_some None f p = tt
on_some (Some x) f p = f x p

-- what holds of a value, if there is one
pub of_some : {T : Type 0} (P : T → Type 0) {o : Option T} {x : T} → o ≡ Some x → IfSome o P → P x
of_some P is holds = subst (λ o. IfSome o P) is holds
