-- The effects of calls, one after another.
use Rattle.std.proofs.Common.{◌≡◌, ℕ, Bool, true, false, Option, Some, None, List, [], ◌∷◌, ◌++◌, refl, sym, ap, ◌∙◌, subst, append_assoc, ◌+◌, Result, Ok, Err, IfOk, OnOk}
use Rattle.std.specs.Prelude.{flat_map}
use Rattle.std.proofs.lemmas.List.{append-nil}
use Rattle.std.proofs.lemmas.List.Concat.{flat_map-append}
use Rattle.psu_hislip.specs.Action.{Act}
use Rattle.psu_hislip.specs.declared.header.Header.{Header}
use Rattle.psu_hislip.specs.declared.side.Side.{Side}
use Rattle.psu_hislip.specs.declared.side.Side.TheVariants.{Sync, Async}
use Rattle.psu_session.specs.Orders.{Order}
use Rattle.psu_session.specs.Credit.{cost, cost_of, held_with}
use Rattle.psu_session.specs.Events.{Call, Event, calls, calls_in, put, put_by, waits_after, waits_by}
use Rattle.psu_session.specs.Step.{Does, Each, delivers, puts_any, works_in}
use Rattle.psu_session.specs.Serving.{Appends, Runs}
use Rattle.psu_session.specs.State.{Release, SessionState, Work, added, order_of_work, orders_in, owed_with, with_held, with_owed}

pub on_ok : {T E P Q : Type 0} (r : Result T E) → (P → Q) → OnOk r P → OnOk r Q
on_ok (Ok x) f p = f p
on_ok (Err e) f p = tt

pub on_if_ok : {T E : Type 0} {P Q : T → Type 0} (r : Result T E) → ((x : T) → P x → Q x) → IfOk r P → IfOk r Q
on_if_ok (Ok x) f p = f x p
on_if_ok (Err e) f p = tt

pub put-append : (side : Side) (xs ys : List Event) → put side (xs ++ ys) ≡ put side xs ++ put side ys
put-append side xs ys = flat_map-append (put_by side) xs ys

pub calls-append : (xs ys : List Event) → calls (xs ++ ys) ≡ calls xs ++ calls ys
calls-append xs ys = flat_map-append calls_in xs ys

-- the state with other lists
abbrev lists : SessionState → List Work → List Release → Bool → List ℕ → List ℕ → SessionState
lists s waiting releases waits sync async = record s { waiting = waiting; releases = releases; lock_waits = waits; sync = sync; async = async }

same_lists : (s : SessionState) {a b : List Work} {c d : List Release} {i j : Bool} {e f g h : List ℕ} → a ≡ b → c ≡ d → i ≡ j → e ≡ f → g ≡ h → lists s a c i e g ≡ lists s b d j f h
same_lists s {a} {b} {c} {d} {i} {j} {e} {f} {g} {h} p q o r t =
    ap (λ (z : List Work). lists s z c i e g) p ∙ ap (λ (z : List Release). lists s b z i e g) q ∙ ap (λ (z : Bool). lists s b d z e g) o ∙ ap (λ (z : List ℕ). lists s b d j z g) r
    ∙ ap (λ (z : List ℕ). lists s b d j f z) t

-- and with other counts
same_counts : (s : SessionState) {a b c d : ℕ} → a ≡ b → c ≡ d → with_owed (with_held s a) c ≡ with_owed (with_held s b) d
same_counts s {a} {b} {c} {d} p q = ap (λ (z : ℕ). with_owed (with_held s z) c) p ∙ ap (λ (z : ℕ). with_owed (with_held s b) z) q

held_with-append : (xs ys : List Order) (held : ℕ) → held_with (xs ++ ys) held ≡ held_with ys (held_with xs held)
held_with-append [] ys held = refl
held_with-append (x ∷ xs) ys held = held_with-append xs ys (held + cost_of x)

pub owed_with-append : (xs ys : List Release) (owed : ℕ) → owed_with (xs ++ ys) owed ≡ owed_with ys (owed_with xs owed)
owed_with-append [] ys owed = refl
owed_with-append (x ∷ xs) ys owed = owed_with-append xs ys (owed + cost 0)

pub held_with_works : (xs ys : List Work) (held : ℕ) → held_with (orders_in (xs ++ ys)) held ≡ held_with (orders_in ys) (held_with (orders_in xs) held)
held_with_works xs ys held = ap (λ (z : List Order). held_with z held) (flat_map-append order_of_work xs ys) ∙ held_with-append (orders_in xs) (orders_in ys) held

-- nothing is added
pub none_added : (s : SessionState) → added s [] [] [] ≡ s
none_added s = same_lists s (append-nil s.waiting) (append-nil s.releases) refl (append-nil s.sync) (append-nil s.async)

pub waits_after-append : (waits : Bool) (xs ys : List Event) → waits_after waits (xs ++ ys) ≡ waits_after (waits_after waits xs) ys
waits_after-append waits [] ys = refl
waits_after-append waits (x ∷ xs) ys = waits_after-append (waits_by waits x) xs ys

-- more is added
pub more_added : (s : SessionState) (first second : List Work) (one two : List Release) (xs ys : List Event) → added (added s first one xs) second two ys ≡ added s (first ++ second) (one ++ two) (xs ++ ys)
more_added s first second one two xs ys =
    same_lists (with_owed (with_held s (held_with (orders_in second) (held_with (orders_in first) s.held))) (owed_with two (owed_with one s.owed))) (append_assoc s.waiting first second) (append_assoc s.releases one two)
    (sym (waits_after-append s.lock_waits xs ys))
    (append_assoc s.sync (put Sync xs) (put Sync ys) ∙ ap (λ (z : List ℕ). s.sync ++ z) (sym (put-append Sync xs ys)))
    (append_assoc s.async (put Async xs) (put Async ys) ∙ ap (λ (z : List ℕ). s.async ++ z) (sym (put-append Async xs ys)))
    ∙ same_counts (added s (first ++ second) (one ++ two) (xs ++ ys)) (sym (held_with_works first second s.held)) (sym (owed_with-append one two s.owed))

module _ {X : Type 0} (does : X → Call → X → Type 0) where
  pub runs_on : (xs ys : List Call) (x y z : X) → Runs does x xs y → Runs does y ys z → Runs does x (xs ++ ys) z
  runs_on [] ys x y z p q = subst (λ (w : X). Runs does w ys z) p q
  runs_on (call ∷ xs) ys x y z (mid, one_call, more) q = (mid, one_call, runs_on xs ys mid y z more q)

  pub runs_after : (xs ys : List Event) (x y z : X) → Runs does x (calls xs) y → Runs does y (calls ys) z → Runs does x (calls (xs ++ ys)) z
  runs_after xs ys x y z p q = subst (λ (w : List Call). Runs does x w z) (sym (calls-append xs ys)) (runs_on (calls xs) (calls ys) x y z p q)

  -- the events so far, and then those that are left, are the whole
  pub record DoneSoFar (Whole Left : List Event → Type 0) (works left_works : List Work) (requested left_requested : List Release) (s : SessionState) (x : X) (t : SessionState) (y : X) : Type 0 where
    pub done : List Event
    pub given : List Work
    pub released : List Release
    pub runs : Runs does x (calls done) y
    pub then : t ≡ added s given released done
    pub completes : (more : List Event) → Left more → Whole (done ++ more)
    pub all_works : works ≡ given ++ left_works
    pub all_requested : requested ≡ released ++ left_requested

  pub begins : (Whole : List Event → Type 0) (works : List Work) (requested : List Release) (s : SessionState) (x : X) → DoneSoFar Whole Whole works works requested requested s x s x
  begins Whole works requested s x = record { done = []; given = []; released = []; runs = refl; then = sym (none_added s); completes = λ more left. left; all_works = refl; all_requested = refl }

  pub steps : (asks : Act → List Release) (Whole : List Event → Type 0) (works : List Work) (requested : List Release) (one : Act) (rest : List Act) (s : SessionState) (x : X) (t : SessionState) (y : X) (u : SessionState) (z : X)
      → DoneSoFar Whole (Each t.lock_waits (one ∷ rest)) works (flat_map works_in (one ∷ rest)) requested (flat_map asks (one ∷ rest)) s x t y → Appends does (Does t.lock_waits one) (works_in one) (asks one) t y u z
      → DoneSoFar Whole (Each u.lock_waits rest) works (flat_map works_in rest) requested (flat_map asks rest) s x u z
  steps asks Whole works requested one rest s x t y u z g e = record {
    done = g.done ++ e.done;
    given = g.given ++ works_in one;
    released = g.released ++ asks one;
    runs = runs_after g.done e.done x y z g.runs e.runs;
    then = e.then ∙ ap (λ (w : SessionState). added w (works_in one) (asks one) e.done) g.then ∙ more_added s g.given (works_in one) g.released (asks one) g.done e.done;
    completes = λ more left. subst Whole (sym (append_assoc g.done e.done more))
        (g.completes (e.done ++ more) (e.done, more, refl, e.are, subst (λ (w : Bool). Each w rest more) (ap (λ (w : SessionState). w.lock_waits) e.then) left));
    all_works = g.all_works ∙ sym (append_assoc g.given (works_in one) (flat_map works_in rest));
    all_requested = g.all_requested ∙ sym (append_assoc g.released (asks one) (flat_map asks rest));
  }

  pub ends : (Whole : List Event → Type 0) (works : List Work) (requested : List Release) (s : SessionState) (x : X) (t : SessionState) (y : X) → DoneSoFar Whole (Each t.lock_waits []) works [] requested [] s x t y → Appends does Whole works requested s x t y
  ends Whole works requested s x t y g = record {
    done = g.done;
    are = subst Whole (append-nil g.done) (g.completes [] refl);
    runs = g.runs;
    then = g.then ∙ ap (λ (w : List Work). added s w g.released g.done) (sym (g.all_works ∙ append-nil g.given)) ∙ ap (λ (w : List Release). added s works w g.done) (sym (g.all_requested ∙ append-nil g.released));
  }

-- that the client has read a response appends nothing
pub delivers_nothing : (s : SessionState) (delivered : Bool) (done : List Event) → added s [] [] done ≡ added s [] [] (delivers delivered ++ done)
delivers_nothing s true done = refl
delivers_nothing s false done = refl

-- a response on the asynchronous connection calls the device not at all
pub asks_nothing : {X : Type 0} (does : X → Call → X → Type 0) (header : Option Header) (x : X) → Runs does x (calls (puts_any header)) x
asks_nothing does None x = refl
asks_nothing does (Some header) x = refl
