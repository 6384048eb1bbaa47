-- The texts that are sent for a transmission, message by message. Source: IEEE 488.2, 8.4: the responses of a
-- message's units, joined by `;` and ended by NL.
use Rattle.std.specs.Prelude.{◌≡◌, ℕ, ◌||◌, Bool, true, false, List, [], ◌∷◌, ◌++◌}
use Rattle.psu_replies.specs.Reply.{Reply, Done, Answer, Error, Expand, Parked, Held, Later}
use Rattle.psu_messages.specs.Response.{are_some, joined}
use Rattle.psu_messages.specs.Effects.{Effect, Executed, Settled, Sent}
use Rattle.psu_messages.specs.Units.{Source}
use Rattle.psu_messages.specs.Executions.{Reaches, Progress, IsOver, beginning}

abbrev pub answer_in : Reply → List (List ℕ)
answer_in Done = []
answer_in (Answer text) = text ∷ []
answer_in (Error error) = []
answer_in (Expand text) = []
answer_in Parked = []
answer_in Held = []
answer_in Later = []

-- the responses of units, in order
abbrev pub answers : List Effect → List (List ℕ)
answers [] = []
answers (Executed request reply ∷ effects) = answer_in reply ++ answers effects
answers (Settled reply ∷ effects) = answer_in reply ++ answers effects
answers (Sent text last ∷ effects) = answers effects

-- the pieces that were sent, put together
abbrev pub text_sent : List Effect → List ℕ
text_sent [] = []
text_sent (Executed request reply ∷ effects) = text_sent effects
text_sent (Settled reply ∷ effects) = text_sent effects
text_sent (Sent text last ∷ effects) = text ++ text_sent effects

-- whether the last piece of a message was sent
abbrev pub ends_text : List Effect → Bool
ends_text [] = false
ends_text (Executed request reply ∷ effects) = ends_text effects
ends_text (Settled reply ∷ effects) = ends_text effects
ends_text (Sent text last ∷ effects) = last || ends_text effects

-- A message with responses: they are sent whole, the last piece after its last unit.
pub record IsAnswered (effects : List Effect) : Type 0 where
  pub before : List Effect
  pub piece : List ℕ
  pub ends : effects ≡ before ++ Sent piece true ∷ []
  pub whole : ends_text before ≡ false
  pub answered : are_some (answers before) ≡ true
  pub text : text_sent effects ≡ joined (answers before) ++ 10 ∷ []

-- messages with responses, one after another
pub data AreAnswered : List Effect → Type 0 where
  None : AreAnswered []
  More : {effects : List Effect} → AreAnswered effects → (message : List Effect) → IsAnswered message → AreAnswered (effects ++ message)

-- no response, and nothing sent
pub record IsSilent (effects : List Effect) : Type 0 where
  pub answers : answers effects ≡ []
  pub text : text_sent effects ≡ []
  pub ends : ends_text effects ≡ false

-- all responses are sent, those of each message in a text of their own, and nothing else
abbrev pub AllIsSent : List Effect → Type 0
AllIsSent effects = (before : List Effect) × (after : List Effect) × (effects ≡ before ++ after) × AreAnswered before × IsSilent after

-- ---- any number of calls

-- The effects of calls for one transmission, one after another, each as the relation of a call says.
pub data Taken (source : Source) : List Effect → Progress → Type 0 where
  New : Taken source [] beginning
  Call : {effects : List Effect} {c : Progress} → Taken source effects c → (added : List Effect) (new : Progress) → ((before : List Effect) → Reaches source before c → Reaches source (before ++ added) new) → Taken source (effects ++ added) new

-- Whichever threads make the calls, and however many there are, together they are one execution of the transmission.
abbrev pub CallsAreOneExecution : Type 0
CallsAreOneExecution = (source : Source) (effects : List Effect) (c : Progress) → Taken source effects c → Reaches source effects c

-- Once nothing is left to do, all responses are sent.
abbrev pub OverIsSent : Type 0
OverIsSent = (source : Source) (effects : List Effect) (c : Progress) → Reaches source effects c → IsOver source c → AllIsSent effects
