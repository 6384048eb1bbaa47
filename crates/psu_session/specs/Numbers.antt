-- The numbers of messages. Source: IVI-6.1 (Data, DataEnd and Trigger have a MessageID; a device clear begins the
-- MessageIDs anew).
use Rattle.std.specs.Prelude.{ℕ, ◌+◌, ◌-◌, ◌%◌, ◌^◌, ◌&&◌, nat_le, Bool, true, false, Option, Some, None, List}
use Rattle.std.specs.List.{list_any}
use Rattle.psu_hislip.specs.Action.{Act}
use Rattle.psu_hislip.specs.MessageType.{type_of}
use Rattle.psu_hislip.specs.Stream.{Received, Frame, Oversize, BadHeader}
use Rattle.psu_hislip.specs.declared.message_type.MessageType.{MessageType}
use Rattle.psu_hislip.specs.declared.message_type.MessageType.TheVariants.{Data, DataEnd, Trigger, DeviceClearComplete}
use Rattle.psu_hislip.specs.declared.side.Side.{Side}
use Rattle.psu_hislip.specs.declared.side.Side.TheVariants.{Sync, Async}

-- a client's first MessageID is ffffff00, so the number before it is ffffff00 less 2
abbrev pub number_of : Option MessageType → ℕ → Option ℕ
number_of (Some Data) parameter = Some parameter
number_of (Some DataEnd) parameter = Some parameter
number_of (Some Trigger) parameter = Some parameter
number_of (Some DeviceClearComplete) parameter = Some 4294967038
number_of _ parameter = None

-- the number of a message of the synchronous channel, if it has one
abbrev pub number : Received → Option ℕ
number (Frame header payload) = number_of (type_of header.kind) header.parameter
number (Oversize header) = number_of (type_of header.kind) header.parameter
number BadHeader = None

-- the number that counts as received with a message, if it has one
abbrev pub number_on : Side → Received → Option ℕ
number_on Sync message = number message
number_on Async message = None

abbrev pub parameter : Received → ℕ
parameter (Frame header payload) = header.parameter
parameter (Oversize header) = header.parameter
parameter BadHeader = 0

-- a message is still to be received where its number is one of the next 65,536 after the last that was received;
-- numbers are modulo 2^32
abbrev pub is_ahead : ℕ → ℕ → Bool
is_ahead last number = nat_le 1 steps && nat_le steps 65536 where
  steps : ℕ
  steps = (number + (2 ^ 32 - last)) % 2 ^ 32

abbrev pub is_clear : Act → Bool
is_clear Act.Clear = true
is_clear _ = false

-- a device clear is among the actions
abbrev pub clears : List Act → Bool
clears actions = list_any is_clear actions
