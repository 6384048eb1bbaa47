-- A connection up to its first message, and the session that this opens. Source: IVI-6.1 (Initialize and AsyncInitialize;
-- the InitializeResponse has the session's number).
use Rattle.std.specs.Prelude.{◌≡◌, ℕ, ◌+◌, List, ◌∷◌, ◌++◌}
use Rattle.psu_hislip.specs.First.{first_of}
use Rattle.psu_hislip.specs.Frame.{header_of}
use Rattle.psu_hislip.specs.Header.{header_bytes}
use Rattle.psu_hislip.specs.Stream.{IsStream, Received}
use Rattle.psu_hislip.specs.declared.first.First.{First}
use Rattle.psu_hislip.specs.declared.message_type.MessageType.TheVariants.{InitializeResponse}
use Rattle.psu_session_io.specs.declared.first_message.Added.{Added}
use Rattle.psu_session_io.specs.declared.first_message.Added.TheVariants as added
use Rattle.psu_session_io.specs.declared.first_message.Pushed.{Pushed}
use Rattle.psu_session_io.specs.declared.first_message.Pushed.TheVariants as pushed

-- The bytes begin a stream whose first message is whole, and requests this.
pub record IsFirst (first : First) (bytes : List ℕ) : Type 0 where
  pub message : Received
  pub later : List Received
  pub are : IsStream bytes (message ∷ later)
  pub requests : first ≡ first_of message

-- the InitializeResponse of a session of this number: version 1.0 of the protocol, and the number
abbrev pub initialize_response : ℕ → List ℕ
initialize_response number = header_bytes (header_of InitializeResponse 0 (16777216 + number) 0)

-- The bytes that have come are the first message, or a part of it.
abbrev pub HasPushed : List ℕ → Pushed → Type 0
HasPushed bytes (pushed.Part part) = part ≡ bytes
HasPushed bytes (pushed.Whole first message) = (message.items ≡ bytes) × IsFirst first bytes

-- The bytes that have come are a part of the first message, or the first message and those after it.
abbrev pub HasAdded : List ℕ → Added → Type 0
HasAdded bytes (added.Part part) = part ≡ bytes
HasAdded bytes (added.Whole first message after) = (message.items ++ after.items ≡ bytes) × IsFirst first message.items
