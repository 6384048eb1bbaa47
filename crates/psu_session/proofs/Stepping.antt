-- Steps of a session, one after another.
use Rattle.std.proofs.Common.{◌≡◌, ◌⊎◌, ℕ, ◌-◌, ◌<◌, ◌≤◌, arith, length, true, Option, Some, None, is_some, List, [], ◌∷◌, ◌++◌, refl, sym, ap, ◌∙◌, subst, append_assoc, inl, inr, false, Result, Ok, Err, is_err, OnOk, IfOk, IfSome, IsNone}
use Rattle.std.proofs.lemmas.List.{append-nil}
use Rattle.psu_hislip.specs.Core.{IsCurrent}
use Rattle.psu_messages.specs.Executions.{Progress, IsOver, beginning}
use Rattle.psu_session.specs.Orders.{Order}
use Rattle.psu_session.specs.Credit.{cost, cost_of}
use Rattle.psu_session.specs.Events.{Call, Event, LockReleased, calls}
use Rattle.psu_session.specs.Phases.{tries}
use Rattle.psu_session.specs.Step.{IsReachable, SessionStep, Steps, running, happened}
use Rattle.psu_session.specs.Step.SessionStep.{Begins, Works, Ends, ReleasesLock}
use Rattle.psu_session.specs.Step.Steps.{Still, Then}
use Rattle.psu_session.specs.Proceeding.{Counts, Frees, IsNext, IsNextRelease, LetsIn, Yields}
use Rattle.psu_session.specs.Serving.{AdvancesOrder, PerformsStep}
use Rattle.psu_session.specs.Shown.{one_running, running_of}
use Rattle.psu_session.specs.declared.queue.Running as declared
use Rattle.psu_session.specs.State.{Running, SessionState, Work, Execute, added, with_held, with_owed, with_work, with_output}
use Rattle.psu_session.specs.declared.proceeding.Proceeded.TheVariants.{Idle, Completed, Waits}
use Rattle.psu_messages.specs.declared.need.Need.{Need}
use Rattle.psu_messages.specs.declared.need.Need.TheVariants.{Flush, Lock, Room, Turn}
use Rattle.psu_hislip.specs.declared.side.Side.TheVariants.{Sync}

pub one_step : {s : SessionState} {done : List Event} {t : SessionState} → SessionStep s done t → Steps s done t
one_step {s} {done} {t} m = Then Still done t m

pub steps_on : {s : SessionState} {xs : List Event} {t : SessionState} {ys : List Event} {u : SessionState} → Steps s xs t → Steps t ys u → Steps s (xs ++ ys) u
steps_on {s} {xs} {t} p Still = subst (λ (z : List Event). Steps s z t) (sym (append-nil xs)) p
steps_on {s} {xs} {t} p (Then {done = done} q more u m) = subst (λ (z : List Event). Steps s z u) (append_assoc xs done more) (Then (steps_on p q) more u m)

-- a last step without events
pub steps_then : {s : SessionState} {xs : List Event} {t u : SessionState} → Steps s xs t → SessionStep t [] u → Steps s xs u
steps_then {s} {xs} {t} {u} p m = subst (λ (z : List Event). Steps s z u) (append-nil xs) (Then p [] u m)

-- ---- the next transmission

-- it is in execution
pub next_running : (s : SessionState) (next : Running) (t : SessionState) → s.running ≡ Some next → t ≡ s → IsNext s next t
next_running s next t is same = record {
  later = s.waiting;
  first = inl (next.progress, is, refl);
  then = same ∙ ap (λ (z : Option Running). with_work s s.waiting z) is;
  steps = subst (λ (z : SessionState). Steps s [] z) (sym same) Still;
}

-- it has begun
pub next_begins : (s : SessionState) (order : Order) (later : List Work) (t : SessionState) → s.running ≡ None → s.waiting ≡ Execute order ∷ later → t ≡ with_work s later (Some (running order beginning)) → IsNext s (running order beginning) t
next_begins s order later t none is then = record {
  later = later;
  first = inr (none, is);
  then = then;
  steps = subst (λ (z : SessionState). Steps s [] z) (sym then) (one_step (Begins (record { order = order; later = later; none = none; first = is; are = refl; then = refl })));
}

-- whether one is in execution
pub some_running : (r : Option declared.Running) → is_some r ≡ true → (first : Running) × (running_of r ≡ Some first)
some_running (Some r) e = (one_running r, refl)
some_running None e = absurd (cc (e))

pub none_running : (r : Option declared.Running) → is_some r ≡ false → running_of r ≡ None
none_running (Some r) e = absurd (cc (e))
none_running None e = refl

-- the one in execution is next
pub next_is : (r : Option declared.Running) (one : declared.Running) (s : SessionState) (next : Running) (t : SessionState) → r ≡ Some one → running_of r ≡ t.running → IsNext s next t → one_running one ≡ next
next_is r one s next t is shown n = let e : Some (one_running one) ≡ Some next = sym (ap running_of is) ∙ shown ∙ ap (λ (z : SessionState). z.running) n.then in cc (e)

-- ---- the result of a call

-- others are let in only once a unit was tried
yields_after : (need : Need) (done : List Event) (t : SessionState) → (need ≡ Turn → (1 ≤ tries (calls done)) ⊎ (65536 ≤ length t.sync)) → Yields (Waits need) done t
yields_after Flush done t when = tt
yields_after Lock done t when = tt
yields_after Room done t when = tt
yields_after Turn done t when = when refl

tried : (units left count : ℕ) (output : List ℕ) → 0 < units → left ≡ units - count → LetsIn units left output → (1 ≤ count) ⊎ (65536 ≤ length output)
tried units left count output some counted (inl few) = inl (omega (arith, some, counted, few))
tried units left count output some counted (inr full) = inr full

module _ {X : Type 0} (does : X → Call → X → Type 0) (s : SessionState) (next : Running) (t : SessionState) (x : X) (n : IsNext s next t) where
  in_execution : t.running ≡ Some next
  in_execution = ap (λ (z : SessionState). z.running) n.then

  -- the state once the transmission has ended
  abbrev ended : SessionState → SessionState
  ended u = with_held (with_work u u.waiting None) (u.held - cost_of next.order)

  pub dropped : (units : ℕ) → (IsCurrent t.core next.order.origin → ⊥) → PerformsStep does (Counts units Completed units) s x (ended t) x
  dropped units gone = record {
    done = [];
    is = record {
      proceeds = record {
        steps = steps_then n.steps (Ends (record { order = next.order; progress = next.progress; is = in_execution; ended = inr gone; are = refl; then = refl }));
        ends = inl (record { order = next.order; later = n.later; first = n.first; none = refl; left = ap (λ (z : SessionState). z.waiting) n.then });
        yields = tt;
      };
      counted = omega arith;
    };
    runs = refl;
  }

  -- the transmission has got so far
  abbrev reached : Progress → List ℕ → SessionState
  reached new output = with_output Sync (with_work t t.waiting (Some (running next.order new))) output

  -- effects of the next transmission
  worked : (new : Progress) (output : List ℕ) (y : X) (units left : ℕ) → IsCurrent t.core next.order.origin → (a : AdvancesOrder does t.core next.order next.progress t.sync x new output y units left)
      → Steps s (happened next.order.origin (a.effects_done)) (reached new output)
  worked new output y units left current a =
      steps_on n.steps
      (one_step (Works (record {
        order = next.order;
        progress = next.progress;
        new = new;
        effects_done = a.effects_done;
        is = in_execution;
        current = current;
        reaches = a.reaches;
        framed = a.framed;
        are = refl;
        then = ap (λ (z : List ℕ). reached new z) a.output;
      })))

  -- the transmission waits
  pub waits : (new : Progress) (output : List ℕ) (y : X) (units left : ℕ) (need : Need) → 0 < units → (need ≡ Turn → LetsIn units left output) → IsCurrent t.core next.order.origin
      → AdvancesOrder does t.core next.order next.progress t.sync x new output y units left → PerformsStep does (Counts units (Waits need) left) s x (reached new output) y
  waits new output y units left need some lets_in current a = record {
    done = happened next.order.origin a.effects_done;
    is = record {
      proceeds = record {
        steps = worked new output y units left current a;
        ends = record { order = next.order; later = n.later; first = n.first; progress = new; same = refl; left = ap (λ (z : SessionState). z.waiting) n.then };
        yields = yields_after need (happened next.order.origin a.effects_done) (reached new output) (λ turn. tried units left (tries (calls (happened next.order.origin a.effects_done))) output some a.counted (lets_in turn));
      };
      counted = a.counted;
    };
    runs = a.runs;
  }

  -- it is over
  pub over : (new : Progress) (output : List ℕ) (y : X) (units left : ℕ) → IsCurrent t.core next.order.origin
      → AdvancesOrder does t.core next.order next.progress t.sync x new output y units left → IsOver next.order.source new → PerformsStep does (Counts units Completed left) s x (ended (reached new output)) y
  over new output y units left current a over_now = record {
    done = happened next.order.origin a.effects_done;
    is = record {
      proceeds = record {
        steps = steps_then (worked new output y units left current a) (Ends (record { order = next.order; progress = new; is = refl; ended = inl over_now; are = refl; then = refl }));
        ends = inl (record { order = next.order; later = n.later; first = n.first; none = refl; left = ap (λ (z : SessionState). z.waiting) n.then });
        yields = tt;
      };
      counted = a.counted;
    };
    runs = a.runs;
  }

module _ {X : Type 0} (does : X → Call → X → Type 0) where
  -- a lock is released
  pub freed : (units : ℕ) (s t u : SessionState) (x y : X) → IsNextRelease s t → Frees does t x u y → PerformsStep does (Counts units Completed units) s x u y
  freed units s t u x y n f =
      let done : List Event = LockReleased f.reply ∷ [] in
      let is : u ≡ added (with_owed (with_work s n.later None) (s.owed - cost 0)) [] [] done = f.then ∙ ap (λ (z : SessionState). added (with_owed z (z.owed - cost 0)) [] [] done) n.then in
      record {
        done = done;
        is = record {
          proceeds = record {
            steps = one_step (ReleasesLock (record { later = n.later; none = n.none; first = n.first; reply = f.reply; are = refl; then = is }));
            ends = inr (record { later = n.later; none = n.none; first = n.first; still = ap (λ (z : SessionState). z.running) is; left = ap (λ (z : SessionState). z.waiting) is ∙ append-nil n.later });
            yields = tt;
          };
          counted = omega arith;
        };
        runs = (y, f.call, refl);
      }

  pub idle : (units : ℕ) (s t : SessionState) (x : X) → (t ≡ s) × (s.running ≡ None) × (s.waiting ≡ []) → PerformsStep does (Counts units Idle units) s x t x
  idle units s t x e = record { done = []; is = record { proceeds = record { steps = subst (λ (z : SessionState). Steps s [] z) (sym e.0) Still; ends = e; yields = tt }; counted = omega arith }; runs = refl }

-- ---- reachable states

pub reached_by : {s : SessionState} {done : List Event} {t : SessionState} → IsReachable s → Steps s done t → IsReachable t
reached_by {s} {done} {t} (start, history, opening, is_history) steps = (start, history ++ done, opening, steps_on is_history steps)

pub reached_on_ok : {T E P : Type 0} {s t : SessionState} (r : Result T E) → (P → (done : List Event) × Steps s done t) → is_err r ≡ false → OnOk r P → IsReachable s → IsReachable t
reached_on_ok {T} {E} {P} {s} {t} (Ok x) to_steps e p reached = reached_by reached (to_steps p).1
reached_on_ok {T} {E} {P} {s} {t} (Err x) to_steps e p reached = absurd (cc (e))

-- what holds of a value, if there is one
pub holds_on_ok : {T E P : Type 0} (r : Result T E) → is_err r ≡ false → OnOk r P → P
holds_on_ok (Ok x) e p = p
holds_on_ok (Err x) e p = absurd (cc (e))

pub reached_if_ok : {T E : Type 0} {P : T → Type 0} {s t : SessionState} (r : Result T E) → ((x : T) → P x → (done : List Event) × Steps s done t) → is_err r ≡ false → IfOk r P → IsReachable s → IsReachable t
reached_if_ok {T} {E} {P} {s} {t} (Ok x) to_steps e p reached = reached_by reached (to_steps x p).1
reached_if_ok {T} {E} {P} {s} {t} (Err x) to_steps e p reached = absurd (cc (e))

pub reached_if_some : {T Q : Type 0} {P : T → Type 0} {s t : SessionState} (r : Option T) → ((x : T) → P x → (done : List Event) × Steps s done t) → IfSome r P → (IsNone r → (t ≡ s) × Q) → IsReachable s → IsReachable t
reached_if_some (Some x) to_steps p none reached = reached_by reached (to_steps x p).1
reached_if_some None to_steps p none reached = subst IsReachable (sym (none refl).0) reached
