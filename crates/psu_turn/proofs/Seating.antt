-- Each step that makes no call, and each end, keeps the rule.
use Rattle.std.proofs.Common.{◌≡◌, ℕ, List, [], ◌∷◌, ◌++◌, length, get_or, set, sym, refl, ap, ◌∙◌, subst, ⊎_elim, arith, Option, Some}
use mathlib.Core.Logic.{dite}
use mathlib.Core.Option.{none, some, some-injective, some-ne-none}
use native.Mathlib.Decide.{ℕ_discrete}
use lib.ListN.{get_elem?}
use lib.Seq.{set-get_or}
use Rattle.atomic_table.specs.Table.{State, step, keeps, opening, Allows, Splits, Joins, Final, Seen}
use Rattle.atomic_table.proofs.Lists.{set_here, set_else, set_again, at_longer}
use Rattle.psu_turn.specs.declared.counted_object.CountedObject.{CountedObject}
use Rattle.psu_turn.specs.declared.view.View.{View}
use Rattle.psu_turn.specs.declared.stage.Stage.{Stage}
use Rattle.psu_turn.specs.declared.stage.Stage.TheVariants.{Idle, Called}
use Rattle.psu_turn.specs.declared.name.Name.{Name}
use Rattle.psu_turn.specs.declared.name.Name.TheVariants.{Spent, Unnamed, Named}
use Rattle.psu_turn.specs.declared.inherited.Inherited.{Inherited}
use Rattle.psu_turn.specs.declared.inherited.Inherited.TheVariants.{Nothing, From}
use Rattle.psu_turn.specs.declared.numbered.Numbered.{Numbered}
use Rattle.psu_turn.specs.History.{calls_by, StartsWith, HistoryLeads}
use Rattle.psu_turn.specs.Rule.{view, newcomer, spent, HasTicket, IsIn, IsAtStage, Owns, Recalls, Fits, OneHistory}
use Rattle.psu_turn.specs.Sights.{number_of}
use Rattle.psu_turn.specs.Steps.{Sat, child_name, child, taken_over, joined, is_named, looks, Tells}
use Rattle.psu_turn.proofs.Lists.{at_bound, at_end, starts_itself, calls_none, set_swap, length_append}
use Rattle.psu_turn.proofs.Moves.{named_unspent, unnamed_unspent, recalls_set, board, served_once, all_in, were_in, step_keeps}
use Rattle.psu_turn.proofs.Keeping.{some_is, name_is, stands}

module _ {T S E : Type 0} (of : T → S) (allows : S → E → S → Type 0) (start : S) where
  abbrev Rule : State (Option (CountedObject T)) (View S E) → Type 0
  Rule = OneHistory of allows start

  -- a step that leaves a seat's stage the same keeps the rule
  same_stage : (s : State (Option (CountedObject T)) (View S E)) (r : Rule s) (i id : ℕ) (v w : View S E) → get_elem? s.views id ≡ some v → (v.name ≡ Spent → ⊥) → w.stage ≡ v.stage
      → StartsWith r.log w.seen → Owns start r.log id w.opening w.mine w.name → Recalls r.log s.views w.inherited
      → Rule (board of allows start (set s.words i (get_or s.words i 0)) s.homes (set s.views id w))
  same_stage s r i id v w me alive is seen own inherited = let f = r.fits id v me in
      subst (λ (ws : List ℕ). Rule (board of allows start ws s.homes (set s.views id w))) (sym (set-get_or s.words i 0))
      (step_keeps of allows start s r id v w s.words s.homes me (λ z. absurd (alive z)) r.wide r.one_slot refl r.few r.most
      (record {
        seen = seen;
        own = own;
        inherited = recalls_set r.log s.views id v w me (λ z. absurd (alive z)) w.inherited inherited;
        stage = subst (λ (g : Stage S). IsAtStage (get_or s.words 1 0) (get_or s.words 2 0) (length r.log) r.state g) (sym is) f.stage;
      })
      (λ j u ne at x. x)
      (λ j u x ne at mine theirs. served_once of allows start s r id j x v u me (subst (λ (g : Stage S). HasTicket x g) is mine) ne at theirs)
      (λ all. r.home (λ j u at. dite (ℕ_discrete j id)
      (λ e. let same : v ≡ u = some-injective v u (sym me ∙ (ap (get_elem? s.views) (sym e) ∙ at)) in
      subst (λ (y : View S E). IsIn y.stage) same (subst (λ (g : Stage S). IsIn g) is (all id w (set_here s.views id w (at_bound s.views id v me)))))
      (λ n. all j u (set_else s.views id j w n ∙ at)))))

  -- a seat that was taken over is released, and a seat that looks has a number
  inherits : (log : List (Numbered E)) (views : List (View S E)) (id n own : ℕ) (v w : View S E) → get_elem? views id ≡ some v → v.name ≡ Named n → own ≡ id → w.seen ≡ log
      → (x : Inherited E) → Recalls log views x → Tells own w x
  inherits log views id n own v w me name here is Nothing q = tt
  inherits log views id n own v w me name here is (From k seen mine) q = (
    subst (λ (l : List (Numbered E)). StartsWith l seen) (sym is) q.0,
    ap (calls_by k) is ∙ q.1,
    λ e. let same : q.2.0 ≡ v = some-injective q.2.0 v (sym q.2.1 ∙ (ap (get_elem? views) (e ∙ here) ∙ me)) in named_unspent v.name n name (ap (λ (y : View S E). y.name) (sym same) ∙ q.2.2),
  )

  pub looks_on : (n id : ℕ) (m : Sat T S E) (k : ℕ) (o : S) → m.0.opening ≡ Some o → m.0.name ≡ Named k
      → Allows Rule n id m 0 (λ y. y) (looks allows (step n 0 0 0 none) m)
  looks_on n id m k o opens name s r narrow me _ =
      let f = r.fits id m.0 me in
      let own : Owns start r.log id m.0.opening m.0.mine (Named k) = subst (λ (x : Name). Owns start r.log id m.0.opening m.0.mine x) name f.own in
      let w : View S E = view m.0.name m.0.opening r.log m.0.mine Nothing m.0.stage in (
        w,
        keeps,
        tt,
        same_stage s r 0 id m.0 w me (λ z. named_unspent m.0.name k name z) refl (starts_itself r.log) f.own tt,
        λ o₁ k₁ opens₁ name₁. let same : k₁ ≡ id = sym (name_is m.0.name k k₁ name name₁) ∙ own.1 in (
          refl,
          refl,
          refl,
          refl,
          refl,
          sym r.count,
          (f.seen, (r.state, subst (λ (x : S). HistoryLeads allows x r.log r.state) (some_is start o₁ (sym own.0 ∙ opens₁)) r.legal), refl, ap (λ (x : ℕ). calls_by x r.log) same ∙ own.2),
          inherits r.log s.views id k k₁ m.0 w me name same refl m.0.inherited f.inherited,
        ),
      )

  pub named_on : (n id : ℕ) (m : Sat T S E) (p : ℕ) → m.0.name ≡ Unnamed p → m.0.mine ≡ []
      → Allows Rule n id m 0 (λ y. y) (is_named (step n 0 0 0 none) m)
  named_on n id m p name none_mine s r narrow me _ =
      let f = r.fits id m.0 me in
      let own : Owns start r.log id m.0.opening m.0.mine (Unnamed p) = subst (λ (x : Name). Owns start r.log id m.0.opening m.0.mine x) name f.own in
      let w : View S E = view (Named id) m.0.opening m.0.seen m.0.mine m.0.inherited m.0.stage in (
        w,
        keeps,
        tt,
        same_stage s r 0 id m.0 w me (λ z. unnamed_unspent m.0.name p name z) refl f.seen (own.0, refl, own.2) f.inherited,
        λ p₁ name₁. (id, (λ e. let b = own.1 in let q : p ≡ p₁ = ap number_of (sym name ∙ name₁) in absurd (omega arith)), calls_none id r.log m.0.seen f.seen (own.2 ∙ none_mine), refl),
      )

  -- one more seat, which is idle
  joins_in : (s : State (Option (CountedObject T)) (View S E)) (r : Rule s) (w : View S E) → w.stage ≡ Idle → StartsWith r.log w.seen
      → Owns start r.log (length s.views) w.opening w.mine w.name → w.inherited ≡ Nothing
      → Rule (board of allows start s.words s.homes (s.views ++ w ∷ []))
  joins_in s r w idle seen own alone = record {
    log = r.log;
    state = r.state;
    wide = r.wide;
    one_slot = r.one_slot;
    count = r.count;
    legal = r.legal;
    few = r.few;
    most = r.most;
    unmade = λ j far. r.unmade j (let q = length_append s.views (w ∷ []) in omega arith);
    fits = λ j u at. ⊎_elim
        (λ (q : get_elem? s.views j ≡ some u). let f = r.fits j u q in record { seen = f.seen; own = f.own; inherited = longer u.inherited f.inherited; stage = f.stage })
        (λ (q : (j ≡ length s.views) × (w ≡ u)). subst (λ (x : ℕ). Fits start r.state r.log (get_or s.words 1 0) (get_or s.words 2 0) (s.views ++ w ∷ []) x u) (sym q.0)
        (subst (λ (y : View S E). Fits start r.state r.log (get_or s.words 1 0) (get_or s.words 2 0) (s.views ++ w ∷ []) (length s.views) y) q.1
        (record {
          seen = seen;
          own = own;
          inherited = subst (λ (x : Inherited E). Recalls r.log (s.views ++ w ∷ []) x) (sym alone) tt;
          stage = subst (λ (g : Stage S). IsAtStage (get_or s.words 1 0) (get_or s.words 2 0) (length r.log) r.state g) (sym idle) tt;
        })))
        (at_end s.views w u j at);
    apart = λ i j x y t ei ej hx hy. ⊎_elim
        (λ (p : get_elem? s.views i ≡ some x). ⊎_elim
        (λ (q : get_elem? s.views j ≡ some y). r.apart i j x y t p q hx hy)
        (λ (q : (j ≡ length s.views) × (w ≡ y)). absurd (subst (λ (g : Stage S). HasTicket t g) idle (subst (λ (a : View S E). HasTicket t a.stage) (sym q.1) hy)))
        (at_end s.views w y j ej))
        (λ (p : (i ≡ length s.views) × (w ≡ x)). absurd (subst (λ (g : Stage S). HasTicket t g) idle (subst (λ (a : View S E). HasTicket t a.stage) (sym p.1) hx)))
        (at_end s.views w x i ei);
    home = λ all. r.home (λ j u at. all j u (at_longer s.views (w ∷ []) j u at));
  }
    where
      longer : (x : Inherited E) → Recalls r.log s.views x → Recalls r.log (s.views ++ w ∷ []) x
      longer Nothing q = tt
      longer (From k seen mine) q = (q.0, q.1, (q.2.0, at_longer s.views (w ∷ []) k q.2.0 q.2.1, q.2.2))

  pub splits_on : (id : ℕ) (v : View S E) (k : ℕ) → v.name ≡ Named k → Splits Rule id v v (child v)
  splits_on id v k name s r me = subst (λ (vs : List (View S E)). Rule (board of allows start s.words s.homes (vs ++ child v ∷ []))) (sym (set_again s.views id v me))
      (let f = r.fits id v me in
      let own : Owns start r.log id v.opening v.mine (Named k) = subst (λ (x : Name). Owns start r.log id v.opening v.mine x) name f.own in
      joins_in s r (child v) refl f.seen
      (subst (λ (x : Name). Owns start r.log (length s.views) v.opening [] x) (sym (ap child_name name)) (own.0, (let b = at_bound s.views id v me in let z = own.1 in omega arith), r.unmade (length s.views) (omega arith)))
      refl)

  pub joins_on : (id : ℕ) (v : View S E) (other : ℕ) (u : View S E) (k p : ℕ) → v.name ≡ Named k → u.name ≡ Named p → u.stage ≡ Idle
      → Joins Rule id v other u (joined v u) spent
  unfolding step_keeps
  joins_on id v other u k p name theirs idle s r me apart them =
      let w : View S E = joined v u in
      let vs : List (View S E) = set s.views id w in
      let there : get_elem? s.views other ≡ some u = sym (set_else s.views id other w apart) ∙ them in
      let f = r.fits id v me in
      let g = r.fits other u there in
      let own : Owns start r.log other u.opening u.mine (Named p) = subst (λ (x : Name). Owns start r.log other u.opening u.mine x) theirs g.own in
      let gone : Rule (board of allows start s.words s.homes (set s.views other spent)) =
      step_keeps of allows start s r other u spent s.words s.homes there (λ z. refl) r.wide r.one_slot refl r.few r.most
      (record { seen = (r.log, refl); own = tt; inherited = tt; stage = tt })
      (λ j x ne at q. q)
      (λ j x t ne at none them. absurd none)
      (λ all. r.home (were_in of allows start s.views other u spent there (subst (λ (g : Stage S). IsIn g) (sym idle) tt) all)) in
      let me' : get_elem? (set s.views other spent) id ≡ some v = set_else s.views other id spent (λ e. apart (sym e)) ∙ me in
      let fv = gone.fits id v me' in
      let own_v : Owns start gone.log id v.opening v.mine v.name = fv.own in
      let alive : v.name ≡ Spent → ⊥ = λ z. named_unspent v.name k name z in
      let its : Recalls gone.log (set s.views other spent) (From p u.seen u.mine) = (
        g.seen,
        subst (λ (x : ℕ). calls_by x r.log ≡ u.mine) (sym own.1) own.2,
        (spent, ap (get_elem? (set s.views other spent)) own.1 ∙ set_here s.views other spent (at_bound s.views other u there), refl),
      ) in
      let last : Rule (board of allows start s.words s.homes (set (set s.views other spent) id w)) =
      subst (λ (ws : List ℕ). Rule (board of allows start ws s.homes (set (set s.views other spent) id w))) (set-get_or s.words 0 0)
      (same_stage (board of allows start s.words s.homes (set s.views other spent)) gone 0 id v w me' alive refl fv.seen fv.own
      (subst (λ (x : Name). Recalls gone.log (set s.views other spent) (taken_over x u)) (sym theirs) its)) in
      subst (λ (xs : List (View S E)). Rule (board of allows start s.words s.homes xs)) (sym (set_swap s.views id other w spent apart)) last

  pub opens_on : (h : CountedObject T) → of h.object ≡ start → h.count ≡ 0 → Rule (opening (0 ∷ 0 ∷ 0 ∷ []) (Some h ∷ []) (newcomer start))
  opens_on h is zero_calls = record {
    log = [];
    state = start;
    wide = refl;
    one_slot = refl;
    count = refl;
    legal = refl;
    few = omega arith;
    most = omega arith;
    unmade = λ j far. refl;
    fits = λ j u at. ⊎_elim
        (λ (q : get_elem? [] j ≡ some u). absurd (some-ne-none u (sym q)))
        (λ (q : (j ≡ 0) × (newcomer start ≡ u)). subst (λ (x : ℕ). Fits start start [] 0 0 (newcomer start ∷ []) x u) (sym q.0)
        (subst (λ (y : View S E). Fits start start [] 0 0 (newcomer start ∷ []) 0 y) q.1 (record { seen = ([], refl); own = (refl, refl, refl); inherited = tt; stage = tt })))
        (at_end [] (newcomer start) u j at);
    apart = λ i j x y t ei ej hx hy. ⊎_elim
        (λ (q : get_elem? [] i ≡ some x). absurd (some-ne-none x (sym q)))
        (λ (q : (i ≡ 0) × (newcomer start ≡ x)). absurd (subst (λ (a : View S E). HasTicket t a.stage) (sym q.1) hx))
        (at_end [] (newcomer start) x i ei);
    home = λ all. (h, refl, is, zero_calls, omega arith);
  }

  -- the last state, where the seat's ticket is served
  pub closes_on : (id : ℕ) (v : View S E) (t : ℕ) (ws : List ℕ) (xs : List (Option (CountedObject T))) → Final (Seen Rule id v) ws xs → v.stage ≡ Called t → (x : Option (CountedObject T)) → get_elem? xs 0 ≡ some x
      → (h : CountedObject T) × (x ≡ Some h) × ((o : S) (k : ℕ) → v.opening ≡ Some o → v.name ≡ Named k → (log : List (Numbered E)) × HistoryLeads allows o log (of h.object) × StartsWith log v.seen × (calls_by k log ≡ v.mine))
  closes_on id v t ws xs final called x at =
      let s = final.0 in let r : Rule s = final.1.0 in let me : get_elem? s.views id ≡ some v = final.1.1 in
      let st = stands of allows start s r id v (Called t) me called in
      let has : HasTicket (get_or s.words 2 0) v.stage = subst (λ (g : Stage S). HasTicket (get_or s.words 2 0) g) (sym called) (sym st.0) in
      let h = r.home (all_in of allows start s r id v me has (subst (λ (g : Stage S). IsIn g) (sym called) tt)) in
      let there : get_elem? xs 0 ≡ some (Some h.0) = final.4 0 (Some h.0) h.1 in
      let f = r.fits id v me in (
        h.0,
        some-injective x (Some h.0) (sym at ∙ there),
        λ o k opens name. let own : Owns start r.log id v.opening v.mine (Named k) = subst (λ (y : Name). Owns start r.log id v.opening v.mine y) name f.own in (
          r.log,
          subst (λ (y : S). HistoryLeads allows o r.log y) (sym h.2) (subst (λ (y : S). HistoryLeads allows y r.log r.state) (some_is start o (sym own.0 ∙ opens)) r.legal),
          f.seen,
          ap (λ (y : ℕ). calls_by y r.log) own.1 ∙ own.2,
        ),
      )
