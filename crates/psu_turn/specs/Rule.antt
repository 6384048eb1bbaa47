-- The rule of the turn's table. Word 0 is the number of calls, word 1 the next ticket, word 2 the ticket that is
-- served; slot 0 has the object.
use Rattle.std.specs.Prelude.{◌≡◌, ℕ, ◌+◌, ◌^◌, ◌<◌, ◌≤◌, List, [], length, slice_index, Option, Some, None}
use mathlib.Core.Option.{some}
use lib.ListN.{get_elem?}
use Rattle.atomic_table.specs.Table.{State}
use Rattle.psu_turn.specs.declared.counted_object.CountedObject.{CountedObject}
use Rattle.psu_turn.specs.declared.numbered.Numbered.{Numbered}
use Rattle.psu_turn.specs.declared.view.View.{View}
use Rattle.psu_turn.specs.declared.stage.Stage.{Stage}
use Rattle.psu_turn.specs.declared.stage.Stage.TheVariants.{Idle, Waiting, Called, Out, Done}
use Rattle.psu_turn.specs.declared.name.Name.{Name}
use Rattle.psu_turn.specs.declared.name.Name.TheVariants.{Spent, Unnamed, Named}
use Rattle.psu_turn.specs.declared.inherited.Inherited.{Inherited}
use Rattle.psu_turn.specs.declared.inherited.Inherited.TheVariants.{Nothing, From}
use Rattle.psu_turn.specs.History.{calls_by, StartsWith, HistoryLeads}

module _ {S E : Type 0} where
  abbrev pub view : Name → Option S → List (Numbered E) → List E → Inherited E → Stage S → View S E
  view n o s m j g = record { name = n; opening = o; seen = s; mine = m; inherited = j; stage = g }

  -- the first seat
  abbrev pub newcomer : S → View S E
  newcomer opening = view (Named 0) (Some opening) [] [] Nothing Idle

  -- a seat that was released
  abbrev pub spent : View S E
  spent = view Spent None [] [] Nothing Idle

  abbrev pub at_stage : View S E → Stage S → View S E
  at_stage v g = view v.name v.opening v.seen v.mine v.inherited g

-- the ticket of a seat, where it has one
abbrev pub HasTicket : {S : Type 0} → ℕ → Stage S → Type 0
HasTicket n Idle = ⊥
HasTicket n (Waiting t) = t ≡ n
HasTicket n (Called t) = t ≡ n
HasTicket n (Out t x c) = t ≡ n
HasTicket n (Done t x c) = t ≡ n

-- the seat doesn't have the object
abbrev pub IsIn : {S : Type 0} → Stage S → Type 0
IsIn Idle = Unit {0}
IsIn (Waiting t) = Unit {0}
IsIn (Called t) = Unit {0}
IsIn (Out t x c) = ⊥
IsIn (Done t x c) = ⊥

-- What a stage says about the next ticket, the one that is served, the number of calls and the state. No more calls
-- were made than tickets served.
module _ {S : Type 0} (ticket serving count : ℕ) (state : S) where
  abbrev pub IsAtStage : Stage S → Type 0
  IsAtStage Idle = Unit {0}
  IsAtStage (Waiting t) = (serving ≤ t) × (t < ticket)
  IsAtStage (Called t) = (serving ≡ t) × (t < ticket)
  IsAtStage (Out t x c) = (serving ≡ t) × (t < ticket) × (x ≡ state) × (c ≡ count) × (count ≤ t)
  IsAtStage (Done t x c) = (serving ≡ t) × (t < ticket) × (x ≡ state) × (c ≡ count) × (count ≤ t + 1)

-- Under the number of seat j the history has exactly its calls. A seat that has no number yet is younger than the seat
-- that it was split from.
module _ {S E : Type 0} (opening : S) (log : List (Numbered E)) (j : ℕ) where
  abbrev pub Owns : Option S → List E → Name → Type 0
  Owns o mine Spent = Unit {0}
  Owns o mine (Unnamed k) = (o ≡ Some opening) × (k < j) × (calls_by j log ≡ mine)
  Owns o mine (Named k) = (o ≡ Some opening) × (k ≡ j) × (calls_by j log ≡ mine)

-- What the other seat had seen is a prefix of the history, which has that seat's calls under its number; that seat
-- makes no more calls.
module _ {S E : Type 0} (log : List (Numbered E)) (views : List (View S E)) where
  abbrev pub Recalls : Inherited E → Type 0
  Recalls Nothing = Unit {0}
  Recalls (From k seen mine) = StartsWith log seen × (calls_by k log ≡ mine) × ((w : View S E) × (get_elem? views k ≡ some w) × (w.name ≡ Spent))

-- what the rule says about seat j, which has the view v
pub record Fits {S E : Type 0} (opening state : S) (log : List (Numbered E)) (ticket serving : ℕ) (views : List (View S E)) (j : ℕ) (v : View S E) : Type 0 where
  pub seen : StartsWith log v.seen
  pub own : Owns opening log j v.opening v.mine v.name
  pub inherited : Recalls log views v.inherited
  pub stage : IsAtStage ticket serving (length log) state v.stage

-- There is one legal history. Its length is the count, and unless a seat has taken it, the slot has the object as the
-- history leaves it.
pub record OneHistory {T S E : Type 0} (of : T → S) (allows : S → E → S → Type 0) (opening : S) (s : State (Option (CountedObject T)) (View S E)) : Type 0 where
  pub log : List (Numbered E)
  pub state : S
  pub wide : length s.words ≡ 3
  pub one_slot : length s.homes ≡ 1
  pub count : slice_index s.words 0 ≡ length log
  pub legal : HistoryLeads allows opening log state
  pub few : slice_index s.words 2 ≤ slice_index s.words 1
  pub most : slice_index s.words 1 ≤ 2 ^ 62
  pub unmade : (j : ℕ) → length s.views ≤ j → calls_by j log ≡ []
  pub fits : (j : ℕ) (v : View S E) → get_elem? s.views j ≡ some v → Fits opening state log (slice_index s.words 1) (slice_index s.words 2) s.views j v
  pub apart : (i j : ℕ) (v w : View S E) (t : ℕ) → get_elem? s.views i ≡ some v → get_elem? s.views j ≡ some w → HasTicket t v.stage → HasTicket t w.stage → i ≡ j
  pub home : ((j : ℕ) (v : View S E) → get_elem? s.views j ≡ some v → IsIn v.stage) → (h : CountedObject T) × (get_elem? s.homes 0 ≡ some (some (Some h))) × (of h.object ≡ state) × (h.count ≡ length log) × (length log ≤ slice_index s.words 2)
