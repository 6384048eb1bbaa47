-- The units of a transmission, each executed to its end, once and in order.
use Rattle.std.specs.Prelude.{◌≡◌, ℕ, ◌+◌, Bool, true, false, Some, None, List, [], ◌∷◌, ◌++◌}
use Rattle.psu_tree.specs.declared.command.Request.{Request}
use Rattle.psu_lex.specs.Message.{Part}
use Rattle.psu_replies.specs.Reply.{Reply, Expand, Parked}
use Rattle.psu_messages.specs.declared.need.Need.{Need}
use Rattle.psu_messages.specs.Effects.{Effect, Executed, Settled, Sent, IsTry, needs}
use Rattle.psu_messages.specs.Units.{Asks, IsBehind, IsUnit, Source}
use Rattle.psu_messages.specs.Executions.{Reaches, Progress, IsOver}

-- the effects other than what was sent
abbrev pub acts : List Effect → List Effect
acts [] = []
acts (Executed request reply ∷ effects) = Executed request reply ∷ acts effects
acts (Settled reply ∷ effects) = Settled reply ∷ acts effects
acts (Sent text last ∷ effects) = acts effects

-- a unit that is accepted waits from then on
abbrev pub accepts : Bool → Reply → Bool
accepts parked Parked = true
accepts parked reply = parked

-- Tries of one unit that have not ended it, and whether it was accepted: before that it is executed again, and after
-- that only settled.
pub data Tried (Is : Request → Type 0) : List Effect → Bool → Type 0 where
  Untried : Tried Is [] false
  Again : {effects : List Effect} {parked : Bool} → Tried Is effects parked → (request : Request) → Is request → (effect : Effect) (reply : Reply) (need : Need) → IsTry parked request effect reply → needs reply ≡ Some need → Tried Is (effects ++ effect ∷ []) (accepts parked reply)

-- the tries of one unit, up to the one that ended it
pub record Ended (Is : Request → Type 0) (effects : List Effect) (reply : Reply) : Type 0 where
  pub tries : List Effect
  pub parked : Bool
  pub tried : Tried Is tries parked
  pub request : Request
  pub is : Is request
  pub effect : Effect
  pub last : IsTry parked request effect reply
  pub ends : needs reply ≡ None
  pub all : effects ≡ tries ++ effect ∷ []

abbrev pub is_expansion : Reply → Bool
is_expansion (Expand body) = true
is_expansion reply = false

-- the reading of the unit at a place, outside an expansion and in one
abbrev pub IsAsked : Source → ℕ → Request → Type 0
IsAsked source place request = (first : Bool) × Asks source place request first

abbrev pub IsInside : List ℕ → ℕ → Request → Type 0
IsInside body place request = (part : Part) × IsUnit true body place part request

-- a number of units of an expansion, each executed to its end
pub data InsideDone (body : List ℕ) : ℕ → List Effect → Type 0 where
  NoneInside : InsideDone body 0 []
  OneInside : {place : ℕ} {effects : List Effect} → InsideDone body place effects → (unit : List Effect) (reply : Reply) → Ended (IsInside body place) unit reply → InsideDone body (place + 1) (effects ++ unit)

-- a number of units from a place on, each executed to its end, with the units of its expansion in its place
pub data UnitsDone (Asked : ℕ → Request → Type 0) (from : ℕ) : ℕ → List Effect → Type 0 where
  NoUnit : UnitsDone Asked from from []
  Plain : {place : ℕ} {effects : List Effect} → UnitsDone Asked from place effects → (unit : List Effect) (reply : Reply) → Ended (Asked place) unit reply → is_expansion reply ≡ false → UnitsDone Asked from (place + 1) (effects ++ unit)
  Expanded : {place : ℕ} {effects : List Effect} → UnitsDone Asked from place effects → (unit : List Effect) (body : List ℕ) → Ended (Asked place) unit (Expand body) → (inner : List Effect) (count : ℕ) → InsideDone body count inner → IsBehind body count
      → UnitsDone Asked from (place + 1) (effects ++ (unit ++ inner))

-- Once nothing is left to do, each unit was executed to its end, once and in order.
abbrev pub OverIsDone : Type 0
OverIsDone = (source : Source) (effects : List Effect) (c : Progress) → Reaches source effects c → IsOver source c → UnitsDone (IsAsked source) 0 c.standing.units (acts effects)
