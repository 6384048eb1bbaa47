-- The bytes of messages that are sent. Source: IVI-6.1.
use Rattle.std.specs.Prelude.{ℕ, List, ◌++◌, length}
use Rattle.psu_hislip.specs.Header.{header_bytes}
use Rattle.psu_hislip.specs.MessageType.{code_of}
use Rattle.psu_hislip.specs.declared.header.Header.{Header}
use Rattle.psu_hislip.specs.declared.message_type.MessageType.{MessageType}

abbrev pub header_of : MessageType → ℕ → ℕ → ℕ → Header
header_of type control parameter size = record { kind = code_of type; control = control; parameter = parameter; length = size }

-- a header, and then its payload
abbrev pub frame_bytes : MessageType → ℕ → ℕ → List ℕ → List ℕ
frame_bytes type control parameter payload = header_bytes (header_of type control parameter (length payload)) ++ payload
