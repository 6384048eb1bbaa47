-- What is to be executed for a session's messages, what was done for it, and the frames that are sent with that. Source:
-- IVI-6.1 (a response has the MessageID of its transmission).
use Rattle.std.specs.Prelude.{◌≡◌, ℕ, true, false, List, [], ◌∷◌, map, flat_map}
use Rattle.psu_lex.specs.declared.scpi_error.ScpiError.TheVariants.{TooMuchData, TriggerIgnored}
use Rattle.psu_hislip.specs.Action.{Act}
use Rattle.psu_hislip.specs.Answer.{IsAnswer, IsPart}
use Rattle.psu_hislip.specs.declared.action.Origin.{Origin}
use Rattle.psu_messages.specs.Executions.{Progress}
use Rattle.psu_messages.specs.Effects.{Effect, Executed, Settled, Sent}
use Rattle.psu_messages.specs.Units.{Fault, Source, Text}

-- a transmission, or the error that is reported in place of one, and the message that requested it
pub record Order : Type 0 where
  pub origin : Origin
  pub source : Source

abbrev pub order_in : Act → List Order
order_in (Act.Execute origin bytes) = record { origin = origin; source = Text bytes } ∷ []
order_in (Act.TooMuch origin) = record { origin = origin; source = Fault TooMuchData } ∷ []
order_in (Act.Trigger origin) = record { origin = origin; source = Fault TriggerIgnored } ∷ []
order_in act = []

-- an effect, and the frames that are sent with it
pub record Done : Type 0 where
  pub effect : Effect
  pub frames : List ℕ

-- what was done for a transmission, and the progress that it has made
pub record Turn : Type 0 where
  pub order : Order
  pub done : List Done
  pub progress : Progress

abbrev pub effects : List Done → List Effect
effects done = map (λ d. d.effect) done

abbrev pub frames : List Done → List ℕ
frames done = flat_map (λ d. d.frames) done

-- the frames of an effect: those of a piece of a response under the MessageID of its transmission, and none for any
-- other effect
abbrev pub IsFramed : ℕ → ℕ → Effect → List ℕ → Type 0
IsFramed size id (Executed request reply) frames = frames ≡ []
IsFramed size id (Settled reply) frames = frames ≡ []
IsFramed size id (Sent text false) frames = IsPart size id text frames
IsFramed size id (Sent text true) frames = IsAnswer size id text frames
