-- The effects of a transmission: tries of its units, and sent pieces of its response messages.
use Rattle.std.specs.Prelude.{◌≡◌, [], ◌∷◌, ℕ, Bool, true, false, Option, Some, None, List}
use Rattle.psu_tree.specs.declared.command.Request.{Request}
use Rattle.psu_messages.specs.declared.need.Need.{Need}
use Rattle.psu_messages.specs.declared.need.Need.TheVariants.{Flush, Lock, Room}
use Rattle.psu_replies.specs.Reply.{Reply, Parked, Held, Later}

-- An effect: a unit is executed, or the wait of one that was accepted is settled, or a piece of text is sent, the
-- last of its message or an earlier one.
pub data Effect : Type 0 where
  Executed : (request : Request) → (reply : Reply) → Effect
  Settled : (reply : Reply) → Effect
  Sent : (text : List ℕ) → (last : Bool) → Effect

-- a unit that was not accepted yet is executed; one that was, and waits, is settled
abbrev pub IsTry : Bool → Request → Effect → Reply → Type 0
IsTry false request (Executed other reply) answer = (other ≡ request) × (reply ≡ answer)
IsTry false request (Settled reply) answer = ⊥
IsTry false request (Sent text last) answer = ⊥
IsTry true request (Executed other reply) answer = ⊥
IsTry true request (Settled reply) answer = reply ≡ answer
IsTry true request (Sent text last) answer = ⊥

-- What a unit waits for if it is to be tried again: after Parked, Held and Later.
abbrev pub needs : Reply → Option Need
needs Parked = Some Flush
needs Held = Some Lock
needs Later = Some Room
needs reply = None

-- Effects, one after another, each leading from a state to another.
abbrev pub Runs : {X : Type 0} → (X → Effect → X → Type 0) → X → List Effect → X → Type 0
Runs does x [] y = y ≡ x
Runs {X} does x (effect ∷ effects) y = (mid : X) × does x effect mid × Runs does mid effects y

-- the last effect is a try of a unit, which waits for this
abbrev pub Awaits : {X : Type 0} → (X → Effect → X → Type 0) → X → Need → Type 0
Awaits {X} does now need = (was : X) × (effect : Effect) × (parked : Bool) × (request : Request) × (reply : Reply) × does was effect now × IsTry parked request effect reply × (needs reply ≡ Some need)
