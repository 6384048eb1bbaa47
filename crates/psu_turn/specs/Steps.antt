-- What a seat learns from each kind of step.
use Rattle.std.specs.Prelude.{◌≡◌, ◌≢◌, ℕ, ◌^◌, ◌<◌, ◌≤◌, List, [], ◌∷◌, ◌++◌, length, Option, Some}
use Rattle.atomic_table.specs.Table.{Me, Step}
use Rattle.psu_turn.specs.declared.counted_object.CountedObject.{CountedObject}
use Rattle.psu_turn.specs.declared.numbered.Numbered.{Numbered}
use Rattle.psu_turn.specs.declared.view.View.{View}
use Rattle.psu_turn.specs.declared.stage.Stage.TheVariants.{Idle, Waiting, Called, Out, Done}
use Rattle.psu_turn.specs.declared.name.Name.{Name}
use Rattle.psu_turn.specs.declared.name.Name.TheVariants.{Spent, Unnamed, Named}
use Rattle.psu_turn.specs.declared.inherited.Inherited.{Inherited}
use Rattle.psu_turn.specs.declared.inherited.Inherited.TheVariants.{Nothing, From}
use Rattle.psu_turn.specs.History.{numbered, calls_by, StartsWith, IsLegal}
use Rattle.psu_turn.specs.Rule.{view, at_stage}

-- a seat at the table, as its steps see it: its view, and the slots that it has
abbrev pub Sat : Type 0 → Type 0 → Type 0 → Type 0
Sat T S E = Me (Option (CountedObject T)) (View S E)

abbrev pub child_name : Name → Name
child_name Spent = Spent
child_name (Unnamed k) = Spent
child_name (Named k) = Unnamed k

module _ {S E : Type 0} where
  -- a seat split from v, which has seen the same
  abbrev pub child : View S E → View S E
  child v = view (child_name v.name) v.opening v.seen [] Nothing Idle

  -- what is taken over from w, a seat of this name
  abbrev pub taken_over : Name → View S E → Inherited E
  taken_over Spent w = Nothing
  taken_over (Unnamed k) w = Nothing
  taken_over (Named k) w = From k w.seen w.mine

  -- v, which takes over what w has
  abbrev pub joined : View S E → View S E → View S E
  joined v w = view v.name v.opening v.seen v.mine (taken_over w.name w) v.stage

  -- what w, whose seat has the number `own`, has seen of a seat that was taken over, which had another number
  abbrev pub Tells : ℕ → View S E → Inherited E → Type 0
  Tells own w Nothing = Unit {0}
  Tells own w (From k seen mine) = StartsWith w.seen seen × (calls_by k w.seen ≡ mine) × (k ≢ own)

  module _ (allows : S → E → S → Type 0) where
    -- The history after the call e is legal, begins with all that the seat k had seen, and ends with e. Under the
    -- number k it has exactly the seat's calls.
    abbrev pub Extends : S → ℕ → View S E → E → View S E → Type 0
    Extends o k v e w = (between : List (Numbered E)) × (w.seen ≡ (v.seen ++ between) ++ numbered k e ∷ []) × IsLegal allows o w.seen × (w.mine ≡ v.mine ++ e ∷ []) × (calls_by k w.seen ≡ w.mine)

    -- The history so far is legal, and begins with all that the seat k had seen. Under the number k it has exactly the
    -- seat's calls.
    abbrev pub Looks : S → ℕ → View S E → View S E → Type 0
    Looks o k v w = StartsWith w.seen v.seen × IsLegal allows o w.seen × (w.mine ≡ v.mine) × (calls_by k w.seen ≡ w.mine)

module _ {T S E : Type 0} where
  -- a seat that finds the next ticket has drawn it
  abbrev pub draws : Step (Option (CountedObject T)) → Sat T S E → ℕ → Sat T S E → Type 0
  draws st m found after = (found ≡ st.first → after ≡ (at_stage m.0 (Waiting st.first), m.1)) × (found ≢ st.first → after ≡ m)

  -- a seat that finds its ticket served has the object
  abbrev pub takes_turn : (T → S) → Step (Option (CountedObject T)) → Sat T S E → ℕ → Sat T S E → Type 0
  takes_turn of st m found after = (t : ℕ) → m.0.stage ≡ Waiting t
      → (found ≡ t → (h : CountedObject T) × (h.count ≤ t) × (t < 2 ^ 62) × (after ≡ (at_stage m.0 (Out t (of h.object) h.count), (0, Some h) ∷ m.1))) × (found ≢ t → after ≡ m)

  -- a seat that finds its ticket served knows it
  abbrev pub is_called : Step (Option (CountedObject T)) → Sat T S E → ℕ → Sat T S E → Type 0
  is_called st m found after = (t : ℕ) → m.0.stage ≡ Waiting t → (found ≡ t → after ≡ (at_stage m.0 (Called t), m.1)) × (found ≢ t → after ≡ m)

  -- the turn is released, and the slot with it
  abbrev pub leaves : Step (Option (CountedObject T)) → Sat T S E → ℕ → Sat T S E → Type 0
  leaves st m found after = after ≡ (at_stage m.0 Idle, [])

  -- a seat that was split off has a number of its own
  abbrev pub is_named : Step (Option (CountedObject T)) → Sat T S E → ℕ → Sat T S E → Type 0
  is_named st m found after = (p : ℕ) → m.0.name ≡ Unnamed p
      → (k : ℕ) × (k ≢ p) × (calls_by k m.0.seen ≡ []) × (after ≡ (view (Named k) m.0.opening m.0.seen m.0.mine m.0.inherited m.0.stage, m.1))

  -- the entry is in the history, and the object that the seat has is as the entry leaves it
  abbrev pub adds : (T → S) → (S → E → S → Type 0) → Option E → Step (Option (CountedObject T)) → Sat T S E → ℕ → Sat T S E → Type 0
  adds of allows entry st m found after = (o : S) (k t : ℕ) (x : S) (c : ℕ) (h : CountedObject T) (e : E) → m.0.opening ≡ Some o → m.0.name ≡ Named k → m.0.stage ≡ Out t x c → m.1 ≡ (0, Some h) ∷ [] → entry ≡ Some e
      → (after.1 ≡ m.1) × (after.0.name ≡ m.0.name) × (after.0.opening ≡ m.0.opening) × (after.0.inherited ≡ m.0.inherited) × (after.0.stage ≡ Done t (of h.object) h.count) × Extends allows o k m.0 e after.0

  -- the seat has seen the whole history, and its length is the number found
  abbrev pub looks : (S → E → S → Type 0) → Step (Option (CountedObject T)) → Sat T S E → ℕ → Sat T S E → Type 0
  looks allows st m found after = (o : S) (k : ℕ) → m.0.opening ≡ Some o → m.0.name ≡ Named k
      → (after.1 ≡ m.1) × (after.0.name ≡ m.0.name) × (after.0.opening ≡ m.0.opening) × (after.0.inherited ≡ Nothing) × (after.0.stage ≡ m.0.stage) × (length after.0.seen ≡ found) × Looks allows o k m.0 after.0 × Tells k after.0 m.0.inherited
