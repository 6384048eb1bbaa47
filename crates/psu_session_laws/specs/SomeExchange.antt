-- An exchange, event by event: the premises of the laws can be met. The instrument here responds to a trigger; the laws
-- hold of any response.
use Rattle.std.specs.Prelude.{ℕ, true, List, [], ◌∷◌, ◌++◌}
use Rattle.psu_lex.specs.declared.scpi_error.ScpiError.TheVariants.{TriggerIgnored}
use Rattle.psu_hislip.specs.Frame.{frame_bytes, header_of}
use Rattle.psu_hislip.specs.Header.{header_bytes}
use Rattle.psu_hislip.specs.Stream.{Received}
use Rattle.psu_hislip.specs.Stream.Received.{Frame}
use Rattle.psu_hislip.specs.declared.message_type.MessageType.{MessageType}
use Rattle.psu_hislip.specs.declared.message_type.MessageType.TheVariants.{AsyncInitialize, DataEnd, Initialize, Trigger}
use Rattle.psu_hislip.specs.declared.action.Origin.{Origin}
use Rattle.psu_hislip.specs.declared.side.Side.TheVariants.{Sync, Async}
use Rattle.psu_replies.specs.Reply.{Reply, Answer}
use Rattle.psu_messages.specs.Executions.{beginning, ended, tried}
use Rattle.psu_messages.specs.Effects.{Executed, Sent}
use Rattle.psu_messages.specs.Units.{Fault, faulty}
use Rattle.psu_session.specs.Orders.{Done, Order, Turn}
use Rattle.psu_session_laws.specs.Exchanged.{ExchangeEvent, Came, Did}

-- a message without payload
abbrev pub bare : MessageType → ℕ → List ℕ
bare type parameter = header_bytes (header_of type 0 parameter 0)

abbrev pub bare_message : MessageType → ℕ → Received
bare_message type parameter = Frame (header_of type 0 parameter 0) []

-- what the client sends: session 1 begins and is joined, and a trigger comes under the MessageID 2
abbrev pub sync_stream : List ℕ
sync_stream = bare Initialize 0 ++ bare Trigger 2

abbrev pub async_stream : List ℕ
async_stream = bare AsyncInitialize 1

-- it is answered `A`
abbrev pub text : List ℕ
text = 65 ∷ 10 ∷ []

abbrev pub answer : List ℕ
answer = frame_bytes DataEnd 0 2 text

abbrev pub its_origin : Origin
its_origin = record { id = 2; clears = 0 }

abbrev pub its_reply : Reply
its_reply = Answer (65 ∷ [])

abbrev pub some_history : List ExchangeEvent
some_history =
    Came Async (bare_message AsyncInitialize 1) ∷ Came Sync (bare_message Trigger 2) ∷ Did its_origin (Executed (faulty TriggerIgnored) its_reply) []
    ∷ Did its_origin (Sent text true) answer ∷ []

abbrev pub its_order : Order
its_order = record { origin = its_origin; source = Fault TriggerIgnored }

abbrev pub its_effects : List Done
its_effects = record { effect = Executed (faulty TriggerIgnored) its_reply; frames = [] } ∷ record { effect = Sent text true; frames = answer } ∷ []

abbrev pub some_turn : Turn
some_turn = record { order = its_order; done = its_effects; progress = ended (tried beginning its_reply) }
