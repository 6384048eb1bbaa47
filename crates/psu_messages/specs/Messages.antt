-- The messages of a transmission, one after another. Source: IEEE 488.2, 8.4: the responses of a message's units are
-- sent as one text.
use Rattle.std.specs.Prelude.{◌≡◌, ◌⊎◌, ℕ, ◌<◌, ◌==◌, false, List, [], ◌++◌}
use Rattle.psu_tree.specs.declared.command.Request.{Request}
use Rattle.psu_messages.specs.ResponseBuffer.{Text}
use Rattle.psu_messages.specs.Response.{joined}
use Rattle.psu_messages.specs.Effects.{Effect}
use Rattle.psu_messages.specs.Units.{Asks, Source}
use Rattle.psu_messages.specs.Executions.{Reaches, Progress, IsOver}
use Rattle.psu_messages.specs.Answers.{IsAnswered, IsSilent, answers, ends_text, text_sent}
use Rattle.psu_messages.specs.Turns.{UnitsDone, acts}

-- the reading of a unit of the message that begins at a place: the unit there is the first of a message, and no other
-- is
abbrev pub IsAskedIn : Source → ℕ → ℕ → Request → Type 0
IsAskedIn source from place request = Asks source place request (place == from)

-- A message: its units, from the first up to the one at `to`, each executed to its end, once and in order. Their
-- responses were sent whole as one text after the last of them, or they had no response and nothing was sent.
pub record IsMessage (source : Source) (from to : ℕ) (effects : List Effect) : Type 0 where
  pub some : from < to
  pub units : UnitsDone (IsAskedIn source from) from to (acts effects)
  pub text : IsAnswered effects ⊎ IsSilent effects

-- messages, one after another, which have this number of units together
pub data AreMessages (source : Source) : ℕ → List Effect → Type 0 where
  NoMessage : AreMessages source 0 []
  OneMore : {from : ℕ} {effects : List Effect} → AreMessages source from effects → (to : ℕ) (message : List Effect) → IsMessage source from to message → AreMessages source to (effects ++ message)

-- Once nothing is left to do, the effects are those of the transmission's messages: each text that was sent consists
-- of the responses of the units of one message.
abbrev pub OverIsMessages : Type 0
OverIsMessages = (source : Source) (effects : List Effect) (c : Progress) → Reaches source effects c → IsOver source c → AreMessages source c.standing.units effects

-- The first messages of a transmission, each whole, and perhaps a part of the next: what was sent of that, followed
-- by the response buffer, is the responses of its units so far, and the last piece of its text was not sent.
pub record AreSomeMessages (source : Source) (effects : List Effect) (gathered : Text) : Type 0 where
  pub units : ℕ
  pub whole : List Effect
  pub begun : List Effect
  pub is : effects ≡ whole ++ begun
  pub messages : AreMessages source units whole
  pub unended : ends_text begun ≡ false
  pub text : text_sent begun ++ gathered.rest ≡ joined (answers begun)

-- At any point of a transmission, its effects are those of some of its messages.
abbrev pub SoFarIsMessages : Type 0
SoFarIsMessages = (source : Source) (effects : List Effect) (c : Progress) → Reaches source effects c → AreSomeMessages source effects c.text
