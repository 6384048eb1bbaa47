-- What a client is sent. Source: IVI-6.1 (a response is Data messages and a DataEnd, under the MessageID of the
-- transmission) and IEEE 488.2, 8.4 (the responses of a message's units are one text, joined by `;` and ended by NL).
use Rattle.std.specs.Prelude.{◌≡◌, ◌⊎◌, ℕ, ◌^◌, ◌<◌, ◌≤◌, Bool, true, false, All, Option, Some, None, List, [], ◌∷◌, ◌++◌, length, map, flat_map}
use Rattle.std.specs.List.{list_any}
use Rattle.psu_lex.specs.declared.scpi_error.ScpiError.TheVariants.{TooMuchData}
use Rattle.psu_hislip.specs.Answer.{IsAnswerCutAnywhere, IsPart, answer_size}
use Rattle.psu_hislip.specs.Runs.{Arrival, begins_clear, origins}
use Rattle.psu_hislip.specs.Stream.{IsStream, Received}
use Rattle.psu_hislip.specs.Transmitted.{IsStretch, Stretch, SentTransmission, piece_in, pieces_of, run_of, text_kept}
use Rattle.psu_hislip.specs.Transmitted.Piece.{More}
use Rattle.psu_hislip.specs.declared.action.Origin.{Origin}
use Rattle.psu_hislip.specs.declared.side.Side.TheVariants.{Sync, Async}
use Rattle.psu_messages.specs.Response.{are_some, joined, response}
use Rattle.psu_messages.specs.Answers.{answers}
use Rattle.psu_messages.specs.Executions.{IsOver}
use Rattle.psu_messages.specs.Effects.{Effect}
use Rattle.psu_messages.specs.Messages.{IsMessage}
use Rattle.psu_messages.specs.Units.{Fault, Source, Text}
use Rattle.psu_session.specs.Orders.{Done, Turn, effects, frames}
use Rattle.psu_session_laws.specs.Exchange.{IsExchange, IsGone, acts_requested, core_at}
use Rattle.psu_session_laws.specs.Exchanged.{ExchangeEvent, Came, Did, came, came_on, replied, written}

-- ---- responses

-- What is sent for a message: its response whole, as Data and one DataEnd, where a unit of it has a response, and else
-- nothing.
abbrev pub IsMessageAnswered : ℕ → ℕ → List Done → Type 0
IsMessageAnswered greatest id message =
    ((are_some (answers (effects message)) ≡ true) × IsAnswerCutAnywhere greatest id (response (answers (effects message))) (frames message))
    ⊎ ((answers (effects message) ≡ []) × (frames message ≡ []))

-- messages, one after another, which have this number of units together, each executed and answered
pub data AreMessagesAnswered (greatest id : ℕ) (source : Source) : ℕ → List Done → Type 0 where
  NoMessage : AreMessagesAnswered greatest id source 0 []
  OneMore : {from : ℕ} {done : List Done} → AreMessagesAnswered greatest id source from done → (to : ℕ) (message : List Done) → IsMessage source from to (effects message) → IsMessageAnswered greatest id message → AreMessagesAnswered greatest id source to (done ++ message)

-- of a transmission in execution: its first messages are answered, and a prefix of the response that the next one has
-- so far is sent as Data
pub record IsAnsweredSoFar (greatest id : ℕ) (source : Source) (done : List Done) : Type 0 where
  pub units : ℕ
  pub whole : List Done
  pub begun : List Done
  pub is : done ≡ whole ++ begun
  pub messages : AreMessagesAnswered greatest id source units whole
  pub sent : List ℕ
  pub rest : List ℕ
  pub answered : joined (answers (effects begun)) ≡ sent ++ rest
  pub parts : IsPart greatest id sent (frames begun)

-- A transmission that is over is answered, message by message, under its MessageID; of another, a prefix of this is
-- sent.
pub record IsAnswered (greatest : ℕ) (turn : Turn) : Type 0 where
  pub whole : IsOver turn.order.source turn.progress → AreMessagesAnswered greatest turn.order.origin.id turn.order.source turn.progress.standing.units turn.done
  pub so_far : IsAnsweredSoFar greatest turn.order.origin.id turn.order.source turn.done

-- no payload that the client accepts is longer at any time at which something is done for a transmission
abbrev pub TakesAtMost : ℕ → ℕ → List ExchangeEvent → Type 0
TakesAtMost greatest session history =
    (before after : List ExchangeEvent) (origin : Origin) (effect : Effect) (frames : List ℕ) → history ≡ before ++ Did origin effect frames ∷ after → answer_size (core_at session before).size ≤ greatest

-- A transmission that was begun and is not answered whole is the last, or a device clear or a FatalError has ended it.
abbrev pub EachIsWholeOrEnded : ℕ → ℕ → List ExchangeEvent → List Turn → Type 0
EachIsWholeOrEnded greatest session history [] = Unit {0}
EachIsWholeOrEnded greatest session history (turn ∷ []) = Unit {0}
EachIsWholeOrEnded greatest session history (turn ∷ next ∷ later) =
    (AreMessagesAnswered greatest turn.order.origin.id turn.order.source turn.progress.standing.units turn.done ⊎ IsGone session history turn.order.origin) × EachIsWholeOrEnded greatest session history (next ∷ later)

abbrev pub EachIsAnswered : Type 0
EachIsAnswered = (session greatest : ℕ) (sync async : List ℕ) (history : List ExchangeEvent) (turns : List Turn) → IsExchange session sync async history turns → TakesAtMost greatest session history
    → All (IsAnswered greatest) turns × EachIsWholeOrEnded greatest session history turns

-- ---- what is sent

-- replies and pieces of responses, each list in its order, are these bytes
pub data Weaves : List (List ℕ) → List (List ℕ) → List ℕ → Type 0 where
  Nothing : Weaves [] [] []
  Reply : {replies pieces : List (List ℕ)} {bytes : List ℕ} → (reply : List ℕ) → Weaves replies pieces bytes → Weaves (reply ∷ replies) pieces (reply ++ bytes)
  Piece : {replies pieces : List (List ℕ)} {bytes : List ℕ} → (piece : List ℕ) → Weaves replies pieces bytes → Weaves replies (piece ∷ pieces) (piece ++ bytes)

abbrev pub pieces : List Turn → List (List ℕ)
pieces turns = flat_map (λ turn. map (λ d. d.frames) turn.done) turns

-- What is sent on the synchronous connection are the core's replies and the frames of the transmissions, each in their
-- order, and nothing else.
abbrev pub NothingElseIsSent : Type 0
NothingElseIsSent = (session : ℕ) (sync async : List ℕ) (history : List ExchangeEvent) (turns : List Turn) → IsExchange session sync async history turns → Weaves (replied history) (pieces turns) (written history)

-- ---- device clears

-- After an AsyncDeviceClear nothing is done for what was received before it, and so nothing of it is sent after that
-- clear's DeviceClearAcknowledge. (Clears are counted modulo 2^64.)
abbrev pub NothingOfBeforeAClear : Type 0
NothingOfBeforeAClear = (session : ℕ) (sync async : List ℕ) (history : List ExchangeEvent) (turns : List Turn) → IsExchange session sync async history turns → length (came history) < 2 ^ 64
    → (before between after : List ExchangeEvent) (clear : Received) (origin : Origin) (effect : Effect) (frames : List ℕ)
    → history ≡ before ++ Came Async clear ∷ (between ++ Did origin effect frames ∷ after) → begins_clear (record { side = Async; message = clear }) ≡ true
    → All (λ o. o ≡ origin → ⊥) (origins (acts_requested session before))

-- ---- the client's transmissions

-- The text that is executed, or none where it is reported that a transmission is too long; another report is of no
-- transmission.
abbrev pub text_in : Source → List (Option (List ℕ))
text_in (Text bytes) = Some bytes ∷ []
text_in (Fault TooMuchData) = None ∷ []
text_in (Fault error) = []

-- Where the messages come in their order, and the core has not failed, the transmissions that are executed are those that
-- the client sent, in order and once each; one that a device clear cut off is not one of them.
abbrev pub AreTheClients : List ExchangeEvent → Bool → List Turn → Type 0
AreTheClients history failed turns = (stretches : List Stretch) (last : List Arrival) (whole : List SentTransmission) (rest : List (List ℕ)) → came history ≡ flat_map run_of stretches ++ last → All IsStretch stretches
    → list_any begins_clear last ≡ false → flat_map piece_in last ≡ flat_map pieces_of whole ++ map More rest → failed ≡ false
    → (waiting : List (Option (List ℕ))) × (map text_kept (flat_map (λ (s : Stretch). s.whole) stretches ++ whole) ≡ flat_map (λ turn. text_in turn.order.source) turns ++ waiting)

-- So are those of each exchange.
abbrev pub TransmissionsAreTheClients : Type 0
TransmissionsAreTheClients = (session : ℕ) (sync async : List ℕ) (history : List ExchangeEvent) (turns : List Turn) → IsExchange session sync async history turns → AreTheClients history (core_at session history).failed turns

-- ---- the client's bytes

-- The messages that the core received are those of the two streams, which are cut into messages in one way.
pub record AreTheStreams (sync async : List ℕ) (history : List ExchangeEvent) : Type 0 where
  pub on_sync : (messages : List Received) → IsStream sync messages → (first : Received) × (messages ≡ first ∷ came_on Sync history)
  pub on_async : (messages : List Received) → IsStream async messages → messages ≡ came_on Async history

abbrev pub MessagesAreTheStreams : Type 0
MessagesAreTheStreams = (session : ℕ) (sync async : List ℕ) (history : List ExchangeEvent) (turns : List Turn) → IsExchange session sync async history turns → AreTheStreams sync async history
