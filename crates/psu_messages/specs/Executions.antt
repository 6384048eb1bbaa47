-- The legal executions of a transmission: its effects, and the progress that they lead to.
use Rattle.std.specs.Prelude.{◌≡◌, ◌⊎◌, ℕ, ◌<◌, Bool, true, false, Option, Some, None, is_some, List, [], ◌∷◌, ◌++◌, length}
use Rattle.psu_tree.specs.declared.command.Request.{Request}
use Rattle.psu_lex.specs.Message.{Part}
use Rattle.psu_replies.specs.Reply.{Reply, Done, Answer, Error, Expand, Parked, Held, Later}
use Rattle.psu_messages.specs.ResponseBuffer.{Text, emptied, nothing, appended}
use Rattle.psu_messages.specs.Standing as standing
use Rattle.psu_messages.specs.Standing.{Standing, start}
use Rattle.psu_messages.specs.Effects.{Effect, Sent, IsTry, Runs}
use Rattle.psu_messages.specs.Relations.{Relations}
use Rattle.psu_messages.specs.Units.{Source, Asks, IsBehind, EndsMessage, HasNone, IsUnit}

-- the progress of a transmission: which unit is next, the expansion that replaces a unit, and the responses that are
-- not sent
pub record Progress : Type 0 where
  pub standing : Standing
  pub expansion : Option (List ℕ)
  pub text : Text

abbrev pub beginning : Progress
beginning = record { standing = start; expansion = None; text = nothing }

-- ---- the progress after a try

-- Parked: the unit was accepted and waits. Held and Later: nothing was executed, and the unit is tried again.
abbrev pub standing_after : Standing → Reply → Standing
standing_after s (Error error) = standing.passed s
standing_after s Done = standing.passed s
standing_after s (Answer text) = standing.passed s
standing_after s (Expand text) = standing.expanded s
standing_after s Parked = standing.accepted s
standing_after s Held = s
standing_after s Later = s

abbrev pub expansion_after : Option ℕ → Option (List ℕ) → Reply → Option (List ℕ)
expansion_after None old (Expand text) = Some text
expansion_after inside old reply = old

abbrev pub text_after : Text → Reply → Text
text_after text (Answer answer) = appended text answer
text_after text reply = text

abbrev pub tried : Progress → Reply → Progress
tried c reply = record {
  standing = standing_after c.standing reply;
  expansion = expansion_after c.standing.inside c.expansion reply;
  text = text_after c.text reply;
}

-- the expansion is done, and with it the unit that it replaced
abbrev pub outside : Progress → Progress
outside c = record { standing = standing.left c.standing; expansion = None; text = c.text }

-- the response buffer was sent, and its message continues
abbrev pub sent : Progress → Progress
sent c = record { standing = c.standing; expansion = c.expansion; text = emptied c.text }

abbrev pub ended : Progress → Progress
ended c = record { standing = c.standing; expansion = c.expansion; text = nothing }

-- ---- what may be done next

-- A unit of the expansion if one replaces a unit, otherwise a unit of the transmission. The first unit of a message
-- comes once all responses before it are sent.
abbrev pub NextAt : Source → Progress → Option ℕ → Request → Type 0
NextAt source c None request = (first : Bool) × Asks source c.standing.units request first × (first ≡ true → c.text.answered ≡ false)
NextAt source c (Some place) request = (body : List ℕ) × (part : Part) × (c.expansion ≡ Some body) × IsUnit true body place part request

abbrev pub IsNext : Source → Progress → Request → Type 0
IsNext source c request = NextAt source c c.standing.inside request

-- the expansion that replaces a unit has no unit left
abbrev pub IsExpanded : Progress → Type 0
IsExpanded c = (body : List ℕ) × (place : ℕ) × (c.expansion ≡ Some body) × (c.standing.inside ≡ Some place) × IsBehind body place

-- a message has ended, and has a response
pub record EndsAnswered (source : Source) (c : Progress) : Type 0 where
  pub ends : EndsMessage source c.standing.units c.standing.inside
  pub answered : c.text.answered ≡ true

-- The response buffer has more than a message may have: a part of it is sent. So all queries of one message, one of
-- the status byte among them, are answered before any response is sent, unless the responses are that long.
abbrev pub IsLong : Text → Type 0
IsLong text = 65536 < length text.rest

-- ---- the execution of a transmission

-- These effects, in order, lead a transmission to this point of its progress: units are tried in order, each until
-- its end; an expansion is executed in its unit's place; parts of a response message are sent, and its last piece,
-- with NL, after the last unit of the message.
pub data Reaches (source : Source) : List Effect → Progress → Type 0 where
  Begins : Reaches source [] beginning
  Tries : {effects : List Effect} {c : Progress} → Reaches source effects c → (request : Request) → IsNext source c request → (effect : Effect) (reply : Reply) → IsTry c.standing.parked request effect reply → Reaches source (effects ++ effect ∷ []) (tried c reply)
  Leaves : {effects : List Effect} {c : Progress} → Reaches source effects c → IsExpanded c → Reaches source effects (outside c)
  Sends : {effects : List Effect} {c : Progress} → Reaches source effects c → c.text.answered ≡ true → IsLong c.text → Reaches source (effects ++ Sent c.text.rest false ∷ []) (sent c)
  Ends : {effects : List Effect} {c : Progress} → Reaches source effects c → EndsAnswered source c → Reaches source (effects ++ Sent (c.text.rest ++ 10 ∷ []) true ∷ []) (ended c)

-- nothing is left to do
pub record IsOver (source : Source) (c : Progress) : Type 0 where
  pub units : HasNone source c.standing.units
  pub sent : c.text.answered ≡ false

-- The effects between two moments lead a transmission from one point of its progress to another, whatever its effects
-- before.
pub record Advances {X : Type 0} (does : X → Effect → X → Type 0) (source : Source) (at : X) (c : Progress) (now : X) (new : Progress) : Type 0 where
  pub added : List Effect
  pub runs : Runs does at added now
  pub reaches : (before : List Effect) → Reaches source before c → Reaches source (before ++ added) new

-- something has begun that is to be ended: responses are to be sent, or a unit waits, or an expansion replaces it
abbrev pub IsUnended : Progress → Type 0
IsUnended c = (c.text.answered ≡ true) ⊎ (c.standing.parked ≡ true) ⊎ (is_some c.standing.inside ≡ true)

-- Why the execution stopped for good at some point: the next unit was executed, but not to its end; another effect
-- was not completed, or an allocation failed; or the next unit ended with a response, which could not be added to the
-- response buffer.
pub data Interruption {X S : Type 0} (r : Relations X S) (source : Source) (mid : X) (c : Progress) (stop : S) (now : X) : Type 0 where
  Failed : (request : Request) → IsNext source c request → c.standing.parked ≡ false → r.fails mid request stop now → Interruption r source mid c stop now
  Stopped : IsUnended c → r.stops mid stop now → Interruption r source mid c stop now
  NotBuffered : (here : X) (request : Request) → IsNext source c request → (effect : Effect) (response : List ℕ) → IsTry c.standing.parked request effect (Answer response) → r.does mid effect here → r.stops here stop now → Interruption r source mid c stop now

-- The effects between two moments lead a transmission to some point of its progress, at which it stopped. The
-- responses that are not sent at that point are left.
pub record StopsAt {X S : Type 0} (r : Relations X S) (source : Source) (at : X) (c : Progress) (stop : S) (now : X) (left : Text) : Type 0 where
  pub mid : X
  pub new : Progress
  pub advances : Advances r.does source at c mid new
  pub interruption : Interruption r source mid new stop now
  pub text : left ≡ new.text

-- ---- one try

-- the reply is a response
abbrev pub IsResponse : Reply → Type 0
IsResponse reply = (text : List ℕ) × (reply ≡ Answer text)

-- a unit was tried once, whether it was accepted before or not
pub record Trial {X : Type 0} (does : X → Effect → X → Type 0) (at : X) (parked : Bool) (request : Request) (now : X) (reply : Reply) : Type 0 where
  pub effect : Effect
  pub done : does at effect now
  pub is : IsTry parked request effect reply

-- The response in a reply is added to the response buffer, which is sent as a part exactly where it is long then.
abbrev pub AddsResponse : {X : Type 0} → (X → Effect → X → Type 0) → X → Text → Reply → X → Text → Type 0
AddsResponse does at text reply now new =
    ((IsResponse reply → IsLong (text_after text reply) → ⊥) × (now ≡ at) × (new ≡ text_after text reply))
    ⊎ (((text_after text reply).answered ≡ true) × IsLong (text_after text reply) × does at (Sent (text_after text reply).rest false) now × (new ≡ emptied (text_after text reply)))

-- the last piece of a response message was sent, if there is a response
abbrev pub Closes : {X : Type 0} → (X → Effect → X → Type 0) → X → Text → X → Text → Type 0
Closes does at text now new =
    ((text.answered ≡ false) × (now ≡ at) × (new ≡ text))
    ⊎ ((text.answered ≡ true) × does at (Sent (text.rest ++ 10 ∷ []) true) now × (new ≡ nothing))

-- a unit of the transmission that is next, or whose expansion is; the first unit of a message comes once all
-- responses before it are sent
abbrev pub NextUnit : Source → Progress → Request → Type 0
NextUnit source c request = (first : Bool) × Asks source c.standing.units request first × (first ≡ true → c.standing.inside ≡ None → c.text.answered ≡ false)
