-- Each step of a call keeps the rule.
use Rattle.std.proofs.Common.{◌≡◌, ℕ, ◌+◌, ◌^◌, ◌<◌, ◌≤◌, ◌≢◌, eqb, List, [], ◌∷◌, ◌++◌, length, get_or, set, sym, refl, ap, ◌∙◌, subst, ⊎_elim, arith, length-set, get_or-set_other, get_or-set_same, Option, Some, None}
use mathlib.Core.Logic.{dite}
use mathlib.Core.Option.{none, some, some-injective, some-ne-none}
use native.Mathlib.Decide.{ℕ_discrete}
use lib.ListN.{get_elem?}
use lib.Seq.{set-get_or}
use prog.Atomic.{either}
use Rattle.atomic_table.specs.Table.{State, step, Act, keeps, takes, gives, Valid, carried_after, stepped, Allows}
use Rattle.atomic_table.proofs.Lists.{at_set, set_here, set_again, exchanged}
use Rattle.psu_turn.specs.declared.counted_object.CountedObject.{CountedObject}
use Rattle.psu_turn.specs.declared.view.View.{View}
use Rattle.psu_turn.specs.declared.stage.Stage.{Stage}
use Rattle.psu_turn.specs.declared.stage.Stage.TheVariants.{Idle, Waiting, Called, Out, Done}
use Rattle.psu_turn.specs.declared.name.Name.{Name}
use Rattle.psu_turn.specs.declared.name.Name.TheVariants.{Spent, Unnamed, Named}
use Rattle.psu_turn.specs.declared.inherited.Inherited.{Inherited}
use Rattle.psu_turn.specs.declared.inherited.Inherited.TheVariants.{Nothing, From}
use Rattle.psu_turn.specs.declared.numbered.Numbered.{Numbered}
use Rattle.psu_turn.specs.History.{numbered, calls_by, HistoryLeads}
use Rattle.psu_turn.specs.Rule.{view, at_stage, HasTicket, IsIn, IsAtStage, Owns, Recalls, Fits, OneHistory}
use Rattle.psu_turn.specs.Sights.{number_of}
use Rattle.psu_turn.specs.Steps.{Sat, draws, takes_turn, is_called, leaves, adds, Extends}
use Rattle.psu_turn.proofs.Lists.{at_bound, starts_itself, starts_more, calls_more, calls_same, length_append, leads_more}
use Rattle.psu_turn.proofs.Moves.{named_unspent, more_tickets, next_served, other_called, drawn, recalls_set, board, served_once, all_in, were_in, step_keeps}

abbrev ticket_of : {T : Type 0} → Stage T → ℕ
ticket_of Idle = 0
ticket_of (Waiting t) = t
ticket_of (Called t) = t
ticket_of (Out t x c) = t
ticket_of (Done t x c) = t

ticket_is : {T : Type 0} (g : Stage T) (t t' : ℕ) → g ≡ Waiting t → g ≡ Waiting t' → t ≡ t'
ticket_is g t t' e e' = ap ticket_of (sym e ∙ e')

out_is : {T : Type 0} (g : Stage T) (t t' : ℕ) (h h' : T) (c c' : ℕ) → g ≡ Out t h c → g ≡ Out t' h' c' → t ≡ t'
out_is g t t' h h' c c' e e' = ap ticket_of (sym e ∙ e')

pub name_is : (n : Name) (k k' : ℕ) → n ≡ Named k → n ≡ Named k' → k ≡ k'
name_is n k k' e e' = ap number_of (sym e ∙ e')

pub some_is : {A : Type 0} (a b : A) → Some a ≡ Some b → a ≡ b
some_is {A} a b e = ap (λ (x : Option A). or_else a x) e where
  or_else : A → Option A → A
  or_else d None = d
  or_else d (Some x) = x

module _ {T E : Type 0} where
  owns_more : (log : List (Numbered E)) (j k : ℕ) (e : E) → k ≢ j → (o : Option T) (mine : List E) (x : Name) (start : T) → Owns start log j o mine x → Owns start (log ++ numbered k e ∷ []) j o mine x
  owns_more log j k e ne o mine Spent start w = tt
  owns_more log j k e ne o mine (Unnamed p) start w = (w.0, w.1, calls_same j k log mine e ne w.2)
  owns_more log j k e ne o mine (Named p) start w = (w.0, w.1, calls_same j k log mine e ne w.2)

  recalls_more : (log : List (Numbered E)) (views : List (View T E)) (id k : ℕ) (v w : View T E) (e : E) → get_elem? views id ≡ some v → v.name ≡ Named k → k ≡ id → (v.name ≡ Spent → w.name ≡ Spent)
      → (x : Inherited E) → Recalls log views x → Recalls (log ++ numbered k e ∷ []) (set views id w) x
  recalls_more log views id k v w e me name is keep Nothing r = tt
  recalls_more log views id k v w e me name is keep (From p seen mine) r = let u = r.2.0 in let at = r.2.1 in let gone = r.2.2 in
      let ne : k ≢ p = λ q. let same : u ≡ v = some-injective u v (sym at ∙ (ap (get_elem? views) (sym q ∙ is) ∙ me)) in named_unspent v.name k name (ap (λ (y : View T E). y.name) (sym same) ∙ gone) in
      (starts_more log (numbered k e ∷ []) seen r.0, calls_same p k log mine e ne r.1, (recalls_set log views id v w me keep (From p seen mine) r).2)

module _ {T S E : Type 0} (of : T → S) (allows : S → E → S → Type 0) (start : S) where
  abbrev Rule : State (Option (CountedObject T)) (View S E) → Type 0
  Rule = OneHistory of allows start

  -- what the stage of a seat says
  pub stands : (s : State (Option (CountedObject T)) (View S E)) (o : Rule s) (id : ℕ) (v : View S E) (g : Stage S) → get_elem? s.views id ≡ some v → v.stage ≡ g → IsAtStage (get_or s.words 1 0) (get_or s.words 2 0) (length o.log) o.state g
  stands s o id v g me is = subst (λ (x : Stage S). IsAtStage (get_or s.words 1 0) (get_or s.words 2 0) (length o.log) o.state x) is ((o.fits id v me).stage)

  -- nothing happened
  stays : (s : State (Option (CountedObject T)) (View S E)) (o : Rule s) (i id : ℕ) (m : Sat T S E) → get_elem? s.views id ≡ some m.0 → Rule (stepped s i (get_or s.words i 0) id m.1 m.0 keeps)
  stays s o i id m me = subst (λ (x : State (Option (CountedObject T)) (View S E)). Rule x)
      (λ k. record { words = sym (set-get_or s.words i 0) k; homes = s.homes; views = sym (set_again s.views id m.0 me) k }) o

  pub draws_on : (n id : ℕ) (m : Sat T S E) (t k : ℕ) → m.0.stage ≡ Idle → m.0.name ≡ Named k → t < 2 ^ 62
      → Allows Rule n id m 1 (λ y. either (eqb y t) (t + 1) y) (draws (step n 1 t (t + 1) none) m)
  draws_on n id m t k idle name room s o narrow me _ =
      let w : View S E = at_stage m.0 (Waiting t) in
      let ws : List ℕ = set s.words 1 (t + 1) in
      let F : ℕ → Type 0 = λ x. (w : View S E) × (a : Act (Option (CountedObject T))) × Valid s.homes m.1 a × Rule (stepped s 1 x id m.1 w a) × draws (step n 1 t (t + 1) none) m (get_or s.words 1 0) (w, carried_after m.1 a) in
      let long = o.wide in let few = o.few in
      exchanged (get_or s.words 1 0) t (t + 1) F
      (λ hit. let f = o.fits id m.0 me in
      let one : get_or ws 1 0 ≡ t + 1 = get_or-set_same s.words 1 (t + 1) 0 (omega arith) in
      let two : get_or ws 2 0 ≡ get_or s.words 2 0 = get_or-set_other s.words 1 2 (t + 1) 0 (λ e. omega arith) in
      let in_it : (g : Stage S) (c : ℕ) (st : S) → IsAtStage (get_or s.words 1 0) (get_or s.words 2 0) c st g → IsAtStage (get_or ws 1 0) (get_or ws 2 0) c st g =
      λ g c st x. subst (λ (y : ℕ). IsAtStage (get_or ws 1 0) y c st g) (sym two) (more_tickets g (get_or s.words 1 0) (get_or ws 1 0) (get_or s.words 2 0) c st (omega arith) x) in (
        w,
        keeps,
        tt,
        step_keeps of allows start s o id m.0 w ws s.homes me (λ z. absurd (named_unspent m.0.name k name z)) (length-set s.words 1 (t + 1) ∙ o.wide) o.one_slot
            (get_or-set_other s.words 1 0 (t + 1) 0 (λ e. omega arith)) (omega arith) (omega arith)
            (record { seen = f.seen; own = f.own; inherited = recalls_set o.log s.views id m.0 w me (λ z. absurd (named_unspent m.0.name k name z)) m.0.inherited f.inherited; stage = (omega arith, omega arith) })
            (λ j u ne at x. in_it u.stage (length o.log) o.state x)
            (λ j u x ne at mine theirs. let low = drawn u.stage (get_or s.words 1 0) (get_or s.words 2 0) (length o.log) x o.state theirs ((o.fits j u at).stage) in let e : t ≡ x = mine in absurd (omega arith))
            (λ all. let h = o.home (were_in of allows start s.views id m.0 w me (subst (λ (g : Stage S). IsIn g) (sym idle) tt) all) in (h.0, h.1, h.2, h.3, let low = h.4 in omega arith)),
        ((λ _. refl), λ miss. absurd (miss hit)),
      ))
      (λ miss. (m.0, keeps, tt, stays s o 1 id m me, ((λ hit. absurd (miss hit)), λ _. refl)))

  -- a load that finds the seat's ticket
  module _ (s : State (Option (CountedObject T)) (View S E)) (o : Rule s) (id : ℕ) (m : Sat T S E) (t : ℕ) (me : get_elem? s.views id ≡ some m.0) (waits : m.0.stage ≡ Waiting t) (hit : get_or s.words 2 0 ≡ t) where
    same_words : set s.words 2 (get_or s.words 2 0) ≡ s.words
    same_words = set-get_or s.words 2 0

    has_it : HasTicket (get_or s.words 2 0) m.0.stage
    has_it = subst (λ (g : Stage S). HasTicket (get_or s.words 2 0) g) (sym waits) (sym hit)

    is_in : IsIn m.0.stage
    is_in = subst (λ (g : Stage S). IsIn g) (sym waits) tt

    the_home : (h : CountedObject T) × (get_elem? s.homes 0 ≡ some (some (Some h))) × (of h.object ≡ o.state) × (h.count ≡ length o.log) × (length o.log ≤ get_or s.words 2 0)
    the_home = o.home (all_in of allows start s o id m.0 me has_it is_in)

    -- the seat moves to a stage with the same ticket
    continues : (k : ℕ) → m.0.name ≡ Named k → (g : Stage S) (hs : List (mathlib.Core.Option.Option (Option (CountedObject T)))) → ((x : ℕ) → HasTicket x g → t ≡ x) → length hs ≡ 1
        → IsAtStage (get_or s.words 1 0) (get_or s.words 2 0) (length o.log) o.state g
        → (((j : ℕ) (u : View S E) → get_elem? (set s.views id (at_stage m.0 g)) j ≡ some u → IsIn u.stage) → (h : CountedObject T) × (get_elem? hs 0 ≡ some (some (Some h))) × (of h.object ≡ o.state) × (h.count ≡ length o.log) × (length o.log ≤ get_or s.words 2 0))
        → Rule (board of allows start (set s.words 2 (get_or s.words 2 0)) hs (set s.views id (at_stage m.0 g)))
    continues k name g hs only narrow here home = let w : View S E = at_stage m.0 g in let f = o.fits id m.0 me in
        subst (λ (ws : List ℕ). Rule (board of allows start ws hs (set s.views id w))) (sym same_words)
        (step_keeps of allows start s o id m.0 w s.words hs me (λ z. absurd (named_unspent m.0.name k name z)) o.wide narrow refl o.few o.most
        (record { seen = f.seen; own = f.own; inherited = recalls_set o.log s.views id m.0 w me (λ z. absurd (named_unspent m.0.name k name z)) m.0.inherited f.inherited; stage = here })
        (λ j u ne at x. x)
        (λ j u x ne at mine theirs. served_once of allows start s o id j x m.0 u me (subst (λ (y : Stage S). HasTicket x y) (sym waits) (only x mine)) ne at theirs)
        home)

  pub takes_on : (n id : ℕ) (m : Sat T S E) (t k : ℕ) → m.0.stage ≡ Waiting t → m.0.name ≡ Named k
      → Allows Rule n id m 2 (λ y. y) (takes_turn of (step n 2 0 0 none) m)
  takes_on n id m t k waits name s o narrow me _ = let long = o.wide in let most = o.most in let st = stands s o id m.0 (Waiting t) me waits in
      let Continues : Type 0 = (w : View S E) × (a : Act (Option (CountedObject T))) × Valid s.homes m.1 a × Rule (stepped s 2 (get_or s.words 2 0) id m.1 w a) × takes_turn of (step n 2 0 0 none) m (get_or s.words 2 0) (w, carried_after m.1 a) in
      dite (ℕ_discrete (get_or s.words 2 0) t)
      (λ hit. let h = the_home s o id m t me waits hit in let w : View S E = at_stage m.0 (Out t (of h.0.object) h.0.count) in let low = h.4 in (
        w,
        takes 0 (Some h.0),
        h.1,
        continues s o id m t me waits hit k name (Out t (of h.0.object) h.0.count) (set s.homes 0 none) (λ x e. e) (length-set s.homes 0 none ∙ o.one_slot) (hit, st.1, h.2, h.3, omega arith)
            (λ all. absurd (all id w (set_here s.views id w (at_bound s.views id m.0 me)))),
        λ t' waits'. let same : t ≡ t' = ticket_is m.0.stage t t' waits waits' in
            ((λ _. (h.0, let c = h.3 in omega arith, let b = st.1 in omega arith, λ i. (at_stage m.0 (Out (same i) (of h.0.object) h.0.count), (0, Some h.0) ∷ m.1))), λ miss. absurd (miss (hit ∙ same))),
      ))
      (λ miss. (m.0, keeps, tt, stays s o 2 id m me, λ t' waits'. let same : t ≡ t' = ticket_is m.0.stage t t' waits waits' in ((λ hit. absurd (miss (hit ∙ sym same))), λ _. refl)))

  pub knows_on : (n id : ℕ) (m : Sat T S E) (t k : ℕ) → m.0.stage ≡ Waiting t → m.0.name ≡ Named k
      → Allows Rule n id m 2 (λ y. y) (is_called (step n 2 0 0 none) m)
  knows_on n id m t k waits name s o narrow me _ = let st = stands s o id m.0 (Waiting t) me waits in
      dite (ℕ_discrete (get_or s.words 2 0) t)
      (λ hit. (
        at_stage m.0 (Called t),
        keeps,
        tt,
        continues s o id m t me waits hit k name (Called t) s.homes (λ x e. e) o.one_slot (hit, st.1) (λ all. the_home s o id m t me waits hit),
        λ t' waits'. let same : t ≡ t' = ticket_is m.0.stage t t' waits waits' in
            ((λ _. λ i. (at_stage m.0 (Called (same i)), m.1)), λ miss. absurd (miss (hit ∙ same))),
      ))
      (λ miss. (m.0, keeps, tt, stays s o 2 id m me, λ t' waits'. let same : t ≡ t' = ticket_is m.0.stage t t' waits waits' in ((λ hit. absurd (miss (hit ∙ sym same))), λ _. refl)))

  pub leaves_on : (n id : ℕ) (m : Sat T S E) (t new k : ℕ) (h : CountedObject T) → m.0.stage ≡ Done t (of h.object) h.count → m.1 ≡ (0, Some h) ∷ [] → new ≡ t + 1 → m.0.name ≡ Named k
      → Allows Rule n id m 2 (λ _. new) (λ _. leaves (step n 2 new 0 none) m new)
  leaves_on n id m t new k h done has is name s o narrow me _ =
      let st = stands s o id m.0 (Done t (of h.object) h.count) me done in let w : View S E = at_stage m.0 Idle in let ws : List ℕ = set s.words 2 new in let hs = set s.homes 0 (some (Some h)) in
      let long = o.wide in let few = o.few in let most = o.most in let one_home = o.one_slot in
      let served : get_or s.words 2 0 ≡ t = st.0 in
      let low : t < get_or s.words 1 0 = st.1 in
      let two : get_or ws 2 0 ≡ new = get_or-set_same s.words 2 new 0 (omega arith) in
      let one : get_or ws 1 0 ≡ get_or s.words 1 0 = get_or-set_other s.words 2 1 new 0 (λ e. omega arith) in
      let mine : HasTicket (get_or s.words 2 0) m.0.stage = subst (λ (g : Stage S). HasTicket (get_or s.words 2 0) g) (sym done) (sym served) in
      let f = o.fits id m.0 me in
      let next : get_or ws 2 0 ≡ get_or s.words 2 0 + 1 = omega arith in (
        w,
        gives,
        tt,
        subst (λ (c : List (ℕ × Option (CountedObject T))). Rule (stepped s 2 new id c w gives)) (sym has)
            (step_keeps of allows start s o id m.0 w ws hs me (λ z. absurd (named_unspent m.0.name k name z)) (length-set s.words 2 new ∙ o.wide) (length-set s.homes 0 (some (Some h)) ∙ o.one_slot)
            (get_or-set_other s.words 2 0 new 0 (λ e. omega arith)) (omega arith) (omega arith)
            (record { seen = f.seen; own = f.own; inherited = recalls_set o.log s.views id m.0 w me (λ z. absurd (named_unspent m.0.name k name z)) m.0.inherited f.inherited; stage = tt })
            (λ j u ne at x. subst (λ (y : ℕ). IsAtStage y (get_or ws 2 0) (length o.log) o.state u.stage) (sym one) (subst (λ (y : ℕ). IsAtStage (get_or s.words 1 0) y (length o.log) o.state u.stage) (sym next)
            (next_served u.stage (get_or s.words 1 0) (get_or s.words 2 0) (length o.log) o.state (λ theirs. served_once of allows start s o id j (get_or s.words 2 0) m.0 u me mine ne at theirs) x)))
            (λ j u x ne at none theirs. absurd none)
            (λ all. (h, set_here s.homes 0 (some (Some h)) (omega arith), st.2, st.3, let c = st.4 in omega arith))),
        ap (λ (c : List (ℕ × Option (CountedObject T))). (w, carried_after c gives)) has,
      )

  -- the log after a call of the seat id
  pub adds_on : (n id : ℕ) (m : Sat T S E) (t new k : ℕ) (o x : S) (c : ℕ) (h' : CountedObject T) (entry : Option E) (e : E)
      → m.0.opening ≡ Some o → m.0.name ≡ Named k → m.0.stage ≡ Out t x c → m.1 ≡ (0, Some h') ∷ [] → entry ≡ Some e
      → new ≡ c + 1 → h'.count ≡ new → allows x e (of h'.object)
      → Allows Rule n id m 0 (λ _. new) (λ _. adds of allows entry (step n 0 new 0 none) m new)
  adds_on n id m t new k o x c h' entry e opens name out has is more counts led s r narrow me _ =
      let st = stands s r id m.0 (Out t x c) me out in
      let f = r.fits id m.0 me in
      let own : Owns start r.log id m.0.opening m.0.mine (Named k) = subst (λ (x : Name). Owns start r.log id m.0.opening m.0.mine x) name f.own in
      let same_start : o ≡ start = some_is o start (sym opens ∙ own.0) in
      let same : k ≡ id = own.1 in
      let log' : List (Numbered E) = r.log ++ numbered k e ∷ [] in
      let w : View S E = view m.0.name m.0.opening log' (m.0.mine ++ e ∷ []) m.0.inherited (Done t (of h'.object) h'.count) in
      let ws : List ℕ = set s.words 0 new in
      let wide = r.wide in
      let long : length log' ≡ length r.log + 1 = let q = length_append r.log (numbered k e ∷ []) in omega arith in
      let counted : c ≡ length r.log = st.3 in
      let zero_is : get_or ws 0 0 ≡ new = get_or-set_same s.words 0 new 0 (omega arith) in
      let one : get_or ws 1 0 ≡ get_or s.words 1 0 = get_or-set_other s.words 0 1 new 0 (λ z. omega arith) in
      let two : get_or ws 2 0 ≡ get_or s.words 2 0 = get_or-set_other s.words 0 2 new 0 (λ z. omega arith) in
      let few = r.few in let most = r.most in
      let mine_calls : calls_by k log' ≡ m.0.mine ++ e ∷ [] = calls_more k r.log m.0.mine e (subst (λ (x : ℕ). calls_by x r.log ≡ m.0.mine) (sym same) own.2) in
      let legal' : HistoryLeads allows start log' (of h'.object) = leads_more allows start r.state (of h'.object) r.log k e r.legal (subst (λ (x : S). allows x e (of h'.object)) st.2 led) in
      let mine : (x : ℕ) → t ≡ x → HasTicket x m.0.stage = λ x p. subst (λ (g : Stage S). HasTicket x g) (sym out) p in
      let served : get_or s.words 2 0 ≡ t = st.0 in
      let apart_from : (j : ℕ) (u : View S E) → j ≢ id → get_elem? s.views j ≡ some u → HasTicket (get_or s.words 2 0) u.stage → ⊥ = λ j u ne at theirs. served_once of allows start s r id j (get_or s.words 2 0) m.0 u me (mine (get_or s.words 2 0) (sym served)) ne at theirs in
      let recalls : (x : Inherited E) → Recalls r.log s.views x → Recalls log' (set s.views id w) x = λ x q. recalls_more r.log s.views id k m.0 w e me name same (λ z. absurd (named_unspent m.0.name k name z)) x q in (
        w,
        keeps,
        tt,
        record {
          log = log';
          state = of h'.object;
          wide = length-set s.words 0 new ∙ r.wide;
          one_slot = r.one_slot;
          count = omega arith;
          legal = legal';
          few = omega arith;
          most = omega arith;
          unmade = λ j far. let bound = at_bound s.views id m.0 me in let z = length-set s.views id w in calls_same j k r.log [] e (λ p. omega arith) (r.unmade j (omega arith));
          fits = λ j u at. ⊎_elim
              (λ (q : (j ≡ id) × (w ≡ u)). subst (λ (x : ℕ). Fits start (of h'.object) log' (get_or ws 1 0) (get_or ws 2 0) (set s.views id w) x u) (sym q.0)
              (subst (λ (y : View S E). Fits start (of h'.object) log' (get_or ws 1 0) (get_or ws 2 0) (set s.views id w) id y) q.1
              (record {
                seen = starts_itself log';
                own = subst (λ (x : Name). Owns start log' id m.0.opening (m.0.mine ++ e ∷ []) x) (sym name) (own.0, same, subst (λ (x : ℕ). calls_by x log' ≡ m.0.mine ++ e ∷ []) same mine_calls);
                inherited = recalls m.0.inherited f.inherited;
                stage = (two ∙ served, (let b = st.1 in omega arith), refl, omega arith, (let c = st.4 in omega arith));
              })))
              (λ (q : (j ≢ id) × (get_elem? s.views j ≡ some u)). let g = r.fits j u q.1 in record {
                seen = starts_more r.log (numbered k e ∷ []) u.seen g.seen;
                own = owns_more r.log j k e (λ p. q.0 (sym p ∙ same)) u.opening u.mine u.name start g.own;
                inherited = recalls u.inherited g.inherited;
                stage = subst (λ (y : ℕ). IsAtStage y (get_or ws 2 0) (length log') (of h'.object) u.stage) (sym one) (subst (λ (y : ℕ). IsAtStage (get_or s.words 1 0) y (length log') (of h'.object) u.stage) (sym two)
                    (other_called u.stage (get_or s.words 1 0) (get_or s.words 2 0) (length r.log) (length log') r.state (of h'.object) (apart_from j u q.0 q.1) g.stage));
              })
              (at_set s.views id j w u at);
          apart = λ i j x y z ei ej hx hy. ⊎_elim
              (λ (p : (i ≡ id) × (w ≡ x)). ⊎_elim
              (λ (q : (j ≡ id) × (w ≡ y)). p.0 ∙ sym q.0)
              (λ (q : (j ≢ id) × (get_elem? s.views j ≡ some y)). sym (r.apart j id y m.0 z q.1 me hy (mine z (subst (λ (a : View S E). HasTicket z a.stage) (sym p.1) hx)) ∙ sym p.0))
              (at_set s.views id j w y ej))
              (λ (p : (i ≢ id) × (get_elem? s.views i ≡ some x)). ⊎_elim
              (λ (q : (j ≡ id) × (w ≡ y)). r.apart i id x m.0 z p.1 me hx (mine z (subst (λ (a : View S E). HasTicket z a.stage) (sym q.1) hy)) ∙ sym q.0)
              (λ (q : (j ≢ id) × (get_elem? s.views j ≡ some y)). r.apart i j x y z p.1 q.1 hx hy)
              (at_set s.views id j w y ej))
              (at_set s.views id i w x ei);
          home = λ all. absurd (all id w (set_here s.views id w (at_bound s.views id m.0 me)));
        },
        λ o₁ k₁ t₁ x₁ c₁ h₁' e₁ opens₁ name₁ out₁ has₁ is₁.
            let same_o : o ≡ o₁ = some_is o o₁ (sym opens ∙ opens₁) in
            let same_k : k ≡ k₁ = name_is m.0.name k k₁ name name₁ in
            let same_e : e ≡ e₁ = some_is e e₁ (sym is ∙ is₁) in
            let same_t : t ≡ t₁ = out_is m.0.stage t t₁ x x₁ c c₁ out out₁ in
            let same_h : Some h' ≡ Some h₁' = ap (λ (c : List (ℕ × Option (CountedObject T))). (get_or c 0 (0, None)).1) (sym has ∙ has₁) in
            let same_h' : h' ≡ h₁' = some_is h' h₁' same_h in (
              refl,
              refl,
              refl,
              refl,
              (λ i. Done (same_t i) (of (same_h' i).object) (same_h' i).count),
              subst (λ (x : S). Extends allows x k₁ m.0 e₁ w) same_o (subst (λ (x : ℕ). Extends allows o x m.0 e₁ w) same_k (subst (λ (x : E). Extends allows o k m.0 x w) same_e
                  (f.seen.0, ap (λ (l : List (Numbered E)). l ++ numbered k e ∷ []) f.seen.1, (of h'.object, subst (λ (x : S). HistoryLeads allows x log' (of h'.object)) (sym same_start) legal'), refl, mine_calls))),
            ),
      )

module _ {T S E : Type 0} where
  pub same_name : (m m' : Sat T S E) (n : Name) → m' ≡ m → m.0.name ≡ n → m'.0.name ≡ n
  same_name m m' n e is = ap (λ (x : Sat T S E). x.0.name) e ∙ is

  pub same_at : (m m' : Sat T S E) (g : Stage S) → m' ≡ m → m.0.stage ≡ g → m'.0.stage ≡ g
  same_at m m' g e is = ap (λ (x : Sat T S E). x.0.stage) e ∙ is

  pub same_opening : (m m' : Sat T S E) (o : Option S) → m' ≡ m → m.0.opening ≡ o → m'.0.opening ≡ o
  same_opening m m' o e is = ap (λ (x : Sat T S E). x.0.opening) e ∙ is

  pub same_slots : (m m' : Sat T S E) (l : List (ℕ × Option (CountedObject T))) → m' ≡ m → m.1 ≡ l → m'.1 ≡ l
  same_slots m m' l e is = ap (λ (x : Sat T S E). x.1) e ∙ is
