-- Laws of responses. Sources: IEEE 488.2, 8.4.1 and 8.7 (a response message unit has at least one byte), 11.2 and 11.3
-- (which bits of the status byte may request service).
use Rattle.std.specs.Prelude.{◌≡◌, ◌≢◌, ℕ, Bool, Some, List, []}
use Rattle.psu_status.specs.Registers.{rising}
use Rattle.psu_status.specs.Status.{Reported, enabled}
use Rattle.psu_tree.specs.declared.command.Command.{Command}
use Rattle.psu_instrument.specs.Commands.{meaning}
use Rattle.psu_instrument.specs.Instrument.{Instrument}
use Rattle.psu_instrument.specs.Meaning.{Situation, Does}

-- no response is empty
abbrev pub EachAnswerHasText : Type 0
EachAnswerHasText = (s : Situation) (command : Command) (text : List ℕ) (new : Instrument) → meaning s command ≡ Does (Some text) new → text ≢ []

-- no enabled bit of the status byte is 1 that was 0, neither of a session that has read its responses nor of one that
-- has not
abbrev pub RaisesNone : Reported → Reported → Type 0
RaisesNone old new = (available : Bool) → rising (enabled old available) (enabled new available) ≡ 0

-- A query that is answered raises no enabled bit: it may clear what it reads, as `*ESR?` and `SYSTem:ERRor?` do.
abbrev pub NoAnswerRaisesABit : Type 0
NoAnswerRaisesABit = (s : Situation) (command : Command) (text : List ℕ) (new : Instrument) → meaning s command ≡ Does (Some text) new → RaisesNone s.instrument.status new.status
