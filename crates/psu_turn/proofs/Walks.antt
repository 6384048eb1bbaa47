-- What a seat learns from a whole call, put together from its steps.
use Rattle.std.proofs.Common.{◌≡◌, ◌≢◌, ℕ, List, [], ◌∷◌, sym, refl, ap, ◌∙◌, subst, Option, Some, None, length}
use Rattle.atomic_table.specs.Table.{Step, rest}
use Rattle.psu_turn.specs.Turns.{TurnId}
use Rattle.psu_turn.specs.declared.counted_object.CountedObject.{CountedObject}
use Rattle.psu_turn.specs.declared.numbered.Numbered.{Numbered}
use Rattle.psu_turn.specs.declared.view.View.{View}
use Rattle.psu_turn.specs.declared.stage.Stage.TheVariants.{Idle, Called}
use Rattle.psu_turn.specs.declared.name.Name.{Name}
use Rattle.psu_turn.specs.declared.name.Name.TheVariants.{Unnamed, Named}
use Rattle.psu_turn.specs.declared.inherited.Inherited.{Inherited}
use Rattle.psu_turn.specs.declared.inherited.Inherited.TheVariants.{Nothing}
use Rattle.psu_turn.specs.History.{calls_by, StartsWith, HistoryLeads}
use Rattle.psu_turn.specs.Rule.{view, at_stage}
use Rattle.psu_turn.specs.Seats.{Sight, IsSame, IsOf, SeatCalls, Sees, Closes}
use Rattle.psu_turn.specs.Sights.{number_of, sight, IsIdle, IsReady}
use Rattle.psu_turn.specs.Steps.{Sat, child_name, child, taken_over, joined, looks, Extends, Tells}
use Rattle.psu_turn.proofs.Keeping.{some_is}
use Rattle.psu_turn.proofs.Outs.{IsOut}

module _ {S E : Type 0} where
  pub still_of : (turn : TurnId) (v w : Sight S E) → IsOf turn v → IsSame v w → IsOf turn w
  still_of turn v w own same = (same.turn ∙ own.0, (own.1.0, same.opening ∙ own.1.1))

  idle_of : (v w : View S E) → IsIdle v → w.name ≡ v.name → w.opening ≡ v.opening → w.stage ≡ Idle → w.inherited ≡ Nothing → IsIdle w
  idle_of v w idle name opens stage alone = record {
    opening = idle.opening;
    opened = opens ∙ idle.opened;
    named = name ∙ (idle.named ∙ ap (λ (n : Name). Named (number_of n)) (sym name));
    idle = stage;
    alone = alone;
  }

  -- what was taken over from a seat that was joined
  pub join_tells : (z : TurnId) (own : ℕ) (w : View S E) (a : View S E) (s : Sight S E) → IsIdle w → sight z w ≡ s → Tells own a (taken_over w.name w)
      → StartsWith a.seen s.seen × (calls_by s.number a.seen ≡ s.mine) × (s.number ≢ own)
  join_tells z own w a s idle is tells = subst (λ (y : Sight S E). StartsWith a.seen y.seen × (calls_by y.number a.seen ≡ y.mine) × (y.number ≢ own)) is
      (subst (λ (n : Name). Tells own a (taken_over n w)) idle.named tells)

module _ {T S E : Type 0} where
  -- a seat that was just split off
  pub child_unnamed : (m r : Sat T S E) → IsIdle m.0 → r ≡ (child m.0, []) → r.0.name ≡ Unnamed (number_of m.0.name)
  child_unnamed m r idle cut = ap (λ (x : Sat T S E). x.0.name) cut ∙ ap child_name idle.named

  pub child_idle : (m r : Sat T S E) → r ≡ (child m.0, []) → r.0.mine ≡ []
  child_idle m r cut = ap (λ (x : Sat T S E). x.0.mine) cut

  pub joined_same : (m j : Sat T S E) (w : View S E) → j ≡ (joined m.0 w, m.1) → (j.0.opening ≡ m.0.opening) × (j.0.name ≡ m.0.name)
  joined_same m j w e = (ap (λ (x : Sat T S E). x.0.opening) e, ap (λ (x : Sat T S E). x.0.name) e)

  pub filled : (m m' : Sat T S E) (x : CountedObject T) → m' ≡ (m.0, (0, Some x) ∷ rest m.1) → m.1 ≡ (0, None) ∷ [] → m' ≡ (m.0, (0, Some x) ∷ [])
  filled m m' x e out = e ∙ ap (λ (c : List (ℕ × Option (CountedObject T))). (m.0, (0, Some x) ∷ rest c)) out

  module _ (allows : S → E → S → Type 0) where
    -- a seat that has looked, and has taken over x
    module _ (st : Step (Option (CountedObject T))) (v : View S E) (x : Inherited E) (slots : List (ℕ × Option (CountedObject T))) (a : Sat T S E) (found : ℕ) (idle : IsIdle v) (none : slots ≡ [])
        (looked : looks allows st (view v.name v.opening v.seen v.mine x v.stage, slots) found a) where
      pub look_ready : IsReady a
      look_ready = let t = looked idle.opening (number_of v.name) idle.opened idle.named in (idle_of v a.0 idle t.1 t.2 (t.4 ∙ idle.idle) t.3, t.0 ∙ none)

      pub look_sees : (z z' : TurnId) (s : Sight S E) → sight z v ≡ s → z' ≡ z → Sees allows s (sight z' a.0)
      look_sees z z' s is same = let t = looked idle.opening (number_of v.name) idle.opened idle.named in let d = t.6 in let number : number_of a.0.name ≡ number_of v.name = ap number_of t.1 in
          subst (λ (y : Sight S E). Sees allows y (sight z' a.0)) is (record {
            same = record { turn = same; number = number; opening = t.2 };
            seen = d.0;
            legal = (idle.opening, t.2 ∙ idle.opened, d.1);
            mine = d.2;
            own = subst (λ (n : ℕ). calls_by n a.0.seen ≡ a.0.mine) (sym number) d.3;
          })

      pub look_counts : length a.0.seen ≡ found
      look_counts = (looked idle.opening (number_of v.name) idle.opened idle.named).5

      pub look_tells : Tells (number_of v.name) a.0 x
      look_tells = (looked idle.opening (number_of v.name) idle.opened idle.named).7

    -- a look of a seat that another was joined to
    pub join_looks : (st : Step (Option (CountedObject T))) (m : Sat T S E) (w : View S E) (j a : Sat T S E) (found : ℕ) → j ≡ (joined m.0 w, m.1) → looks allows st j found a
        → looks allows st (view m.0.name m.0.opening m.0.seen m.0.mine (taken_over w.name w) m.0.stage, m.1) found a
    join_looks st m w j a found is looked = subst (λ (x : Sat T S E). looks allows st x found a) is looked

    -- a seat that has made its call and released the turn
    module _ (m m' n a : Sat T S E) (t c : ℕ) (slots : List (ℕ × Option (CountedObject T))) (out : IsOut t c m) (before : m' ≡ (m.0, slots)) (name : n.0.name ≡ m'.0.name) (opens : n.0.opening ≡ m'.0.opening) (alone : n.0.inherited ≡ m'.0.inherited) (after : a ≡ (at_stage n.0 Idle, [])) where
      same_name_n : n.0.name ≡ m.0.name
      same_name_n = name ∙ ap (λ (x : Sat T S E). x.0.name) before

      same_opening_n : n.0.opening ≡ m.0.opening
      same_opening_n = opens ∙ ap (λ (x : Sat T S E). x.0.opening) before

      pub left_ready : IsReady a
      left_ready = subst (λ (x : Sat T S E). IsReady x) (sym after) (
        record {
          opening = out.opening;
          opened = same_opening_n ∙ out.opened;
          named = same_name_n ∙ (out.named ∙ ap (λ (x : Name). Named (number_of x)) (sym same_name_n));
          idle = refl;
          alone = alone ∙ (ap (λ (x : Sat T S E). x.0.inherited) before ∙ out.alone);
        },
        refl,
      )

      pub left_calls : (z z' : TurnId) (e : E) → z' ≡ z → Extends allows out.opening (number_of m.0.name) m'.0 e n.0 → SeatCalls allows (sight z m.0) e (sight z' a.0)
      left_calls z z' e same extends =
          let d : Extends allows out.opening (number_of m.0.name) m.0 e n.0 = subst (λ (x : Sat T S E). Extends allows out.opening (number_of m.0.name) x.0 e n.0) before extends in
          let number : number_of n.0.name ≡ number_of m.0.name = ap number_of same_name_n in
          subst (λ (x : Sat T S E). SeatCalls allows (sight z m.0) e (sight z' x.0)) (sym after) (record {
            same = record { turn = same; number = number; opening = same_opening_n };
            seen = (d.0, d.1);
            legal = (out.opening, same_opening_n ∙ out.opened, d.2);
            mine = d.3;
            own = subst (λ (k : ℕ). calls_by k n.0.seen ≡ n.0.mine) (sym number) d.4;
          })

    -- the last state
    pub close_tells : (of : T → S) (z : TurnId) (m v : Sat T S E) (h x : CountedObject T) (t : ℕ) (s : Sight S E) → IsReady m → sight z m.0 ≡ s → v ≡ (at_stage m.0 (Called t), m.1) → Some x ≡ Some h
        → ((o : S) (k : ℕ) → v.0.opening ≡ Some o → v.0.name ≡ Named k → (log : List (Numbered E)) × HistoryLeads allows o log (of h.object) × StartsWith log v.0.seen × (calls_by k log ≡ v.0.mine))
        → Closes allows s (of x.object)
    close_tells of z m v h x t s ready is e same f =
        let idle = ready.0 in
        let q = subst (λ (y : Sat T S E). (o : S) (k : ℕ) → y.0.opening ≡ Some o → y.0.name ≡ Named k → (log : List (Numbered E)) × HistoryLeads allows o log (of h.object) × StartsWith log y.0.seen × (calls_by k log ≡ y.0.mine)) e f idle.opening (number_of m.0.name) idle.opened idle.named in
        subst (λ (y : Sight S E). Closes allows y (of x.object)) is (record {
          opening = idle.opening;
          opening_is = idle.opened;
          history = q.0;
          leads = subst (λ (y : CountedObject T). HistoryLeads allows idle.opening q.0 (of y.object)) (sym (some_is x h same)) q.1;
          seen = q.2;
          own = q.3;
        })
