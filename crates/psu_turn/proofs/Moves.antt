-- How steps keep the rule: parts that all steps share.
use Rattle.std.proofs.Common.{◌≡◌, ℕ, ◌+◌, ◌^◌, ◌<◌, ◌≤◌, ◌≢◌, List, length, get_or, set, sym, ap, ◌∙◌, subst, ◌⊎◌, inl, inr, ⊎_elim, arith, length-set, Option, Some}
use mathlib.Core.Logic.{dite}
use mathlib.Core.Option.{some, some-injective, some-ne-none}
use native.Mathlib.Decide.{ℕ_discrete}
use lib.ListN.{get_elem?}
use Rattle.atomic_table.specs.Table.{State}
use Rattle.atomic_table.proofs.Lists.{at_set, set_here, set_else}
use Rattle.psu_turn.specs.declared.counted_object.CountedObject.{CountedObject}
use Rattle.psu_turn.specs.declared.view.View.{View}
use Rattle.psu_turn.specs.declared.stage.Stage.{Stage}
use Rattle.psu_turn.specs.declared.stage.Stage.TheVariants.{Idle, Waiting, Called, Out, Done}
use Rattle.psu_turn.specs.declared.name.Name.{Name}
use Rattle.psu_turn.specs.declared.name.Name.TheVariants.{Spent, Unnamed, Named}
use Rattle.psu_turn.specs.declared.inherited.Inherited.{Inherited}
use Rattle.psu_turn.specs.declared.inherited.Inherited.TheVariants.{Nothing, From}
use Rattle.psu_turn.specs.declared.numbered.Numbered.{Numbered}
use Rattle.psu_turn.specs.Rule.{HasTicket, IsIn, IsAtStage, Recalls, Fits, OneHistory}
use Rattle.psu_turn.proofs.Lists.{at_bound}

abbrev name_code : Name → ℕ
name_code Spent = 0
name_code (Unnamed k) = 1
name_code (Named k) = 2

pub named_unspent : (n : Name) (k : ℕ) → n ≡ Named k → n ≡ Spent → ⊥
named_unspent n k e z = absurd (omega (arith, ap name_code (sym e ∙ z)))

pub unnamed_unspent : (n : Name) (k : ℕ) → n ≡ Unnamed k → n ≡ Spent → ⊥
unnamed_unspent n k e z = absurd (omega (arith, ap name_code (sym e ∙ z)))

module _ {T : Type 0} where
  pub more_tickets : (g : Stage T) (tk tk' sv c : ℕ) (st : T) → tk ≤ tk' → IsAtStage tk sv c st g → IsAtStage tk' sv c st g
  more_tickets Idle tk tk' sv c st h s = tt
  more_tickets (Waiting t) tk tk' sv c st h s = let a = s.0 in let b = s.1 in (a, omega arith)
  more_tickets (Called t) tk tk' sv c st h s = let b = s.1 in (s.0, omega arith)
  more_tickets (Out t x n) tk tk' sv c st h s = let b = s.1 in (s.0, omega arith, s.2, s.3, s.4)
  more_tickets (Done t x n) tk tk' sv c st h s = let b = s.1 in (s.0, omega arith, s.2, s.3, s.4)

  -- the next ticket is served, and the one served before is not this seat's
  pub next_served : (g : Stage T) (tk sv c : ℕ) (st : T) → (HasTicket sv g → ⊥) → IsAtStage tk sv c st g → IsAtStage tk (sv + 1) c st g
  next_served Idle tk sv c st un s = tt
  next_served (Waiting t) tk sv c st un s = let a = s.0 in (dite (ℕ_discrete t sv) (λ e. absurd (un e)) (λ n. omega arith), s.1)
  next_served (Called t) tk sv c st un s = absurd (un (sym s.0))
  next_served (Out t x n) tk sv c st un s = absurd (un (sym s.0))
  next_served (Done t x n) tk sv c st un s = absurd (un (sym s.0))

  -- another seat made a call
  pub other_called : (g : Stage T) (tk sv c c' : ℕ) (st st' : T) → (HasTicket sv g → ⊥) → IsAtStage tk sv c st g → IsAtStage tk sv c' st' g
  other_called Idle tk sv c c' st st' un s = tt
  other_called (Waiting t) tk sv c c' st st' un s = s
  other_called (Called t) tk sv c c' st st' un s = absurd (un (sym s.0))
  other_called (Out t x n) tk sv c c' st st' un s = absurd (un (sym s.0))
  other_called (Done t x n) tk sv c c' st st' un s = absurd (un (sym s.0))

  -- a seat doesn't have the object, or its ticket is served
  pub in_or_served : (g : Stage T) (tk sv c : ℕ) (st : T) → IsAtStage tk sv c st g → IsIn g ⊎ HasTicket sv g
  in_or_served Idle tk sv c st s = inl tt
  in_or_served (Waiting t) tk sv c st s = inl tt
  in_or_served (Called t) tk sv c st s = inl tt
  in_or_served (Out t x n) tk sv c st s = inr (sym s.0)
  in_or_served (Done t x n) tk sv c st s = inr (sym s.0)

  -- a ticket that was drawn
  pub drawn : (g : Stage T) (tk sv c n : ℕ) (st : T) → HasTicket n g → IsAtStage tk sv c st g → n < tk
  drawn Idle tk sv c n st h s = absurd h
  drawn (Waiting t) tk sv c n st h s = let b = s.1 in omega (arith, h)
  drawn (Called t) tk sv c n st h s = let b = s.1 in omega (arith, h)
  drawn (Out t x z) tk sv c n st h s = let b = s.1 in omega (arith, h)
  drawn (Done t x z) tk sv c n st h s = let b = s.1 in omega (arith, h)

module _ {T E : Type 0} where
  pub recalls_set : (log : List (Numbered E)) (views : List (View T E)) (id : ℕ) (v w : View T E) → get_elem? views id ≡ some v → (v.name ≡ Spent → w.name ≡ Spent)
      → (x : Inherited E) → Recalls log views x → Recalls log (set views id w) x
  recalls_set log views id v w me keep Nothing r = tt
  recalls_set log views id v w me keep (From k seen mine) r = let u = r.2.0 in let at = r.2.1 in let gone = r.2.2 in (
    r.0,
    r.1,
    dite (ℕ_discrete k id)
        (λ e. let same : u ≡ v = some-injective u v (sym at ∙ (ap (get_elem? views) e ∙ me)) in
        (w, ap (get_elem? (set views id w)) e ∙ set_here views id w (at_bound views id v me), keep (ap (λ (y : View T E). y.name) (sym same) ∙ gone)))
        (λ n. (u, set_else views id k w n ∙ at, gone)),
  )

module _ {T S E : Type 0} (of : T → S) (allows : S → E → S → Type 0) (opening : S) where
  abbrev pub St : Type 0
  St = State (Option (CountedObject T)) (View S E)

  abbrev pub board : List ℕ → List (mathlib.Core.Option.Option (Option (CountedObject T))) → List (View S E) → St
  board ws hs vs = record { words = ws; homes = hs; views = vs }

  -- no two seats have the same ticket
  pub served_once : (s : St) (o : OneHistory of allows opening s) (id j n : ℕ) (v u : View S E) → get_elem? s.views id ≡ some v → HasTicket n v.stage → j ≢ id → get_elem? s.views j ≡ some u → HasTicket n u.stage → ⊥
  served_once s o id j n v u me mine ne them theirs = absurd (ne (o.apart j id u v n them me theirs mine))

  -- while a seat whose ticket is served doesn't have the object, no seat has it
  pub all_in : (s : St) (o : OneHistory of allows opening s) (id : ℕ) (v : View S E) → get_elem? s.views id ≡ some v → HasTicket (get_or s.words 2 0) v.stage → IsIn v.stage
      → (j : ℕ) (u : View S E) → get_elem? s.views j ≡ some u → IsIn u.stage
  all_in s o id v me mine is j u them = ⊎_elim (λ (x : IsIn u.stage). x) (λ (theirs : HasTicket (get_or s.words 2 0) u.stage).
      let e : j ≡ id = o.apart j id u v (get_or s.words 2 0) them me theirs mine in
      let same : v ≡ u = some-injective v u (sym me ∙ (ap (get_elem? s.views) (sym e) ∙ them)) in
      subst (λ (y : View S E). IsIn y.stage) same is)
      (in_or_served u.stage (get_or s.words 1 0) (get_or s.words 2 0) (length o.log) o.state ((o.fits j u them).stage))

  -- no seat had the object before a seat changed its view
  pub were_in : (views : List (View S E)) (id : ℕ) (v w : View S E) → get_elem? views id ≡ some v → IsIn v.stage
      → ((j : ℕ) (u : View S E) → get_elem? (set views id w) j ≡ some u → IsIn u.stage) → (j : ℕ) (u : View S E) → get_elem? views j ≡ some u → IsIn u.stage
  were_in views id v w me is all j u at = dite (ℕ_discrete j id)
      (λ e. subst (λ (y : View S E). IsIn y.stage) (some-injective v u (sym me ∙ (ap (get_elem? views) (sym e) ∙ at))) is)
      (λ n. all j u (set_else views id j w n ∙ at))

  -- a step that makes no call
  unfoldable pub step_keeps : (s : St) (o : OneHistory of allows opening s) (id : ℕ) (v w : View S E) (ws : List ℕ) (hs : List (mathlib.Core.Option.Option (Option (CountedObject T)))) → get_elem? s.views id ≡ some v
      → (v.name ≡ Spent → w.name ≡ Spent) → length ws ≡ 3 → length hs ≡ 1
      → get_or ws 0 0 ≡ get_or s.words 0 0 → get_or ws 2 0 ≤ get_or ws 1 0 → get_or ws 1 0 ≤ 2 ^ 62
      → Fits opening o.state o.log (get_or ws 1 0) (get_or ws 2 0) (set s.views id w) id w
      → ((j : ℕ) (u : View S E) → j ≢ id → get_elem? s.views j ≡ some u → IsAtStage (get_or s.words 1 0) (get_or s.words 2 0) (length o.log) o.state u.stage → IsAtStage (get_or ws 1 0) (get_or ws 2 0) (length o.log) o.state u.stage)
      → ((j : ℕ) (u : View S E) (t : ℕ) → j ≢ id → get_elem? s.views j ≡ some u → HasTicket t w.stage → HasTicket t u.stage → ⊥)
      → (((j : ℕ) (u : View S E) → get_elem? (set s.views id w) j ≡ some u → IsIn u.stage) → (h : CountedObject T) × (get_elem? hs 0 ≡ some (some (Some h))) × (of h.object ≡ o.state) × (h.count ≡ length o.log) × (length o.log ≤ get_or ws 2 0))
      → OneHistory of allows opening (board ws hs (set s.views id w))
  step_keeps s o id v w ws hs me name wide one count few most fit others alone home = record {
    log = o.log;
    state = o.state;
    wide = wide;
    one_slot = one;
    count = count ∙ o.count;
    legal = o.legal;
    few = few;
    most = most;
    unmade = λ j h. o.unmade j (let long = length-set s.views id w in omega arith);
    fits = λ j u e. ⊎_elim
        (λ (t : (j ≡ id) × (w ≡ u)). subst (λ (x : ℕ). Fits opening o.state o.log (get_or ws 1 0) (get_or ws 2 0) (set s.views id w) x u) (sym t.0) (subst (λ (y : View S E). Fits opening o.state o.log (get_or ws 1 0) (get_or ws 2 0) (set s.views id w) id y) t.1 fit))
        (λ (t : (j ≢ id) × (get_elem? s.views j ≡ some u)). let f = o.fits j u t.1 in
        record { seen = f.seen; own = f.own; inherited = recalls_set o.log s.views id v w me name u.inherited f.inherited; stage = others j u t.0 t.1 f.stage })
        (at_set s.views id j w u e);
    apart = λ i j x y t ei ej hx hy. ⊎_elim
        (λ (p : (i ≡ id) × (w ≡ x)). ⊎_elim
        (λ (q : (j ≡ id) × (w ≡ y)). p.0 ∙ sym q.0)
        (λ (q : (j ≢ id) × (get_elem? s.views j ≡ some y)). absurd (alone j y t q.0 q.1 (subst (λ (z : View S E). HasTicket t z.stage) (sym p.1) hx) hy))
        (at_set s.views id j w y ej))
        (λ (p : (i ≢ id) × (get_elem? s.views i ≡ some x)). ⊎_elim
        (λ (q : (j ≡ id) × (w ≡ y)). absurd (alone i x t p.0 p.1 (subst (λ (z : View S E). HasTicket t z.stage) (sym q.1) hy) hx))
        (λ (q : (j ≢ id) × (get_elem? s.views j ≡ some y)). o.apart i j x y t p.1 q.1 hx hy)
        (at_set s.views id j w y ej))
        (at_set s.views id i w x ei);
    home = home;
  }
