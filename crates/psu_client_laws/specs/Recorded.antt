-- A session's history beside the one legal history of its device: what a client is sent are the replies that the
-- device's history says. Source: IVI-6.1 (a response is Data messages and a DataEnd, under the MessageID of the
-- transmission) and IEEE 488.2, 8.4 (the responses of a message's units are one text, joined by `;` and ended by NL)
-- and 12.5.3 (the response to `*OPC?` is sent once all operations before it are complete).
use Rattle.std.specs.Prelude.{◌≡◌, ◌⊎◌, ℕ, Bool, true, false, All, Some, List, [], ◌∷◌, ◌++◌, flat_map, map}
use Rattle.psu_hislip.specs.Answer.{IsAnswerCutAnywhere}
use Rattle.psu_hislip.specs.Channel.{Fed}
use Rattle.psu_hislip.specs.Stream.{Received}
use Rattle.psu_hislip.specs.declared.action.Origin.{Origin}
use Rattle.psu_hislip.specs.declared.side.Side.TheVariants.{Sync, Async}
use Rattle.psu_messages.specs.Response.{are_some, response}
use Rattle.psu_exec.specs.Calls.{Entry}
use Rattle.psu_exec.specs.Device as device
use Rattle.psu_messages.specs.Answers.{answer_in}
use Rattle.psu_messages.specs.Executions.{IsOver}
use Rattle.psu_messages.specs.Messages.{IsMessage}
use Rattle.psu_turn.specs.History.{calls_by}
use Rattle.psu_turn.specs.Seats.{IsLegalFrom, Sight}
use Rattle.psu_bench.specs.Calls.{AllowsOn}
use Rattle.psu_session_laws.specs.Answered.{AreTheClients, AreTheStreams, TakesAtMost, Weaves, pieces}
use Rattle.psu_session.specs.Events.{Call, Event, Did, calls_in}
use Rattle.psu_session_laws.specs.Views.{bytes_received, exchange_history, taken}
use Rattle.psu_session.specs.Orders.{Done, Order, Turn, effects, frames}
use Rattle.psu_session_laws.specs.Exchange.{orders}
use Rattle.psu_session_laws.specs.Exchanged.{replied}
use Rattle.psu_session.specs.Phases.{phase_ended}
use Rattle.psu_session.specs.State.{Start, SessionState, orders_in}
use Rattle.psu_session.specs.Step.{IsHistory, IsOpening, happened}
use Rattle.psu_session_io.specs.Extending.{ArePart}
use Rattle.psu_session_io.specs.Shared.{Shared}
use Rattle.psu_threads.specs.Called.{AreAllEntries}
use Rattle.psu_threads.specs.Seated.{IsSeated, MayBeClosed}

-- an event of the session's history, and the entries of its calls in the device's history
pub record Recorded : Type 0 where
  pub event : Event
  pub entries : List Entry

-- all entries, in their order
abbrev pub all_entries : List Recorded → List Entry
all_entries events = flat_map (λ r. r.entries) events

-- the entries of an event are those of its calls
abbrev pub HasEntries : ℕ → Recorded → Type 0
HasEntries session r = AreAllEntries session (calls_in r.event) r.entries

-- ---- responses

-- the responses in the replies that the device's history says
abbrev pub responses_in : Entry → List (List ℕ)
responses_in (Entry.Executed session request reply) = answer_in reply
responses_in (Entry.Settled session reply) = answer_in reply
responses_in entry = []

abbrev pub responses : List Recorded → List (List ℕ)
responses events = flat_map (λ r. flat_map responses_in r.entries) events

-- What is sent for a message is the response that is formed from these replies, as Data and one DataEnd, where there is
-- one, and else nothing.
abbrev pub IsSent : ℕ → ℕ → List Recorded → List ℕ → Type 0
IsSent greatest id message frames =
    ((are_some (responses message) ≡ true) × IsAnswerCutAnywhere greatest id (response (responses message)) frames)
    ⊎ ((responses message ≡ []) × (frames ≡ []))

-- the events are these effects of a transmission, each with its frames
abbrev pub AreEffects : Origin → List Recorded → List Done → Type 0
AreEffects origin events done = map (λ r. r.event) events ≡ happened origin done

-- messages, one after another, which have this number of units together, each executed and answered so
pub data AreSent (greatest : ℕ) (order : Order) : ℕ → List Recorded → Type 0 where
  NoMessage : AreSent greatest order 0 []
  OneMore : {from : ℕ} {events : List Recorded} → AreSent greatest order from events → (to : ℕ) (message : List Recorded) (done : List Done) → AreEffects order.origin message done → IsMessage order.source from to (effects done)
      → IsSent greatest order.origin.id message (frames done) → AreSent greatest order to (events ++ message)

-- a transmission, and the events of its effects
pub record RecordedTurn : Type 0 where
  pub turn : Turn
  pub events : List Recorded

-- A transmission that is over is answered, message by message, under its MessageID.
abbrev pub IsAnswered : ℕ → RecordedTurn → Type 0
IsAnswered greatest r = IsOver r.turn.order.source r.turn.progress → AreSent greatest r.turn.order r.turn.progress.standing.units r.events

-- ---- a session

-- the event, if it is an effect of a transmission
abbrev pub if_effect : Event → Recorded → List Recorded
if_effect (Did origin effect frames) r = r ∷ []
if_effect _ r = []

abbrev pub effects_of : List Recorded → List Recorded
effects_of events = flat_map (λ r. if_effect r.event r) events

-- A session of this number, and the seat under which it calls the device: what the client is sent, beside the one legal
-- history of the device. Between two entries of the session stand only calls of others, never a later one of its own.
pub record IsRecorded (honest : Type 0) (session : ℕ) (closed : Bool) (s : Shared) (seat : Sight device.State Entry) : Type 0 where
  -- a history of the session, which leads to its state unless it is over
  pub start : Start
  pub opening : IsOpening start
  pub number : start.session ≡ session
  pub history : List Event
  pub reached : SessionState
  pub is : IsHistory start history reached
  pub now : phase_ended s.phase ≡ false → reached ≡ s.state
  -- each call of the device has its entries, with its reply
  pub events : List Recorded
  pub are : map (λ r. r.event) events ≡ history
  pub each : All (HasEntries session) events
  -- the first calls of a step that was not completed: there are none before the session is over
  pub rest : List Call
  pub part : ArePart reached rest
  pub rest_entries : List Entry
  pub rest_are : AreAllEntries session rest rest_entries
  pub stopped : phase_ended s.phase ≡ false → rest ≡ []
  -- The device's history is legal. Under the seat's number it has the opening of the session, then these entries in the
  -- session's order, once the device has closed it the closing, and nothing else.
  pub legal : IsLegalFrom (AllowsOn honest) seat.opening seat.seen
  pub closing : List Entry
  pub closes : MayBeClosed session closed s.phase closing
  pub own : calls_by seat.number seat.seen ≡ Entry.Opened (Some session) ∷ ((all_entries events ++ rest_entries) ++ closing)
  -- the messages that the session received are those of the bytes of its two connections
  pub streams : (stream : List ℕ) (first : Received) → Fed start.sync stream (first ∷ []) → AreTheStreams (stream ++ bytes_received Sync history) (bytes_received Async history) (exchange_history history)
  -- its transmissions are executed in the order of their arrival, and each effect is one of them
  pub turns : List RecordedTurn
  pub in_order : orders session (exchange_history history) ≡ map (λ r. r.turn.order) turns ++ orders_in reached.waiting
  pub all_effects : effects_of events ≡ flat_map (λ r. r.events) turns
  pub each_effect : All (λ r. AreEffects r.turn.order.origin r.events r.turn.done) turns
  -- they are those that the client sent, in order and once each
  pub transmissions : AreTheClients (exchange_history history) reached.core.failed (map (λ r. r.turn) turns)
  -- each that is over is answered by the replies of its entries
  pub answered : (greatest : ℕ) → TakesAtMost greatest session (exchange_history history) → All (IsAnswered greatest) turns
  -- what was taken to be written on the synchronous connection, then its output, are the core's replies and these
  -- responses
  pub sent : Weaves (replied (exchange_history history)) (pieces (map (λ r. r.turn) turns)) (taken Sync history ++ reached.sync)

-- So it is for each session that is kept with its seat.
abbrev pub EachResponseIsOfTheHistory : Type 0 → Type 0
EachResponseIsOfTheHistory honest = (session : ℕ) (closed : Bool) (s : Shared) (seat : Sight device.State Entry) → IsSeated honest session closed s seat → IsRecorded honest session closed s seat

-- ---- a message with one response, as `*OPC?`

-- this element, of which this one comes
pub record HasOne {A B : Type 0} (f : A → List B) (all : List A) (b : B) : Type 0 where
  pub before : List A
  pub one : A
  pub after : List A
  pub is : all ≡ before ++ one ∷ after
  pub gives : f one ≡ b ∷ []

-- one of the entries of a message has this response in its reply
abbrev pub IsReplied : List Recorded → List ℕ → Type 0
IsReplied message text = (event : HasOne (λ r. flat_map responses_in r.entries) message text) × HasOne responses_in event.one.entries text

-- Where one unit of a message has a response, the client is sent the text of that reply and NL.
abbrev pub OneResponseIsSent : Type 0
OneResponseIsSent = (greatest id : ℕ) (message : List Recorded) (text frames : List ℕ) → responses message ≡ text ∷ [] → IsSent greatest id message frames
    → IsReplied message text × IsAnswerCutAnywhere greatest id (text ++ 10 ∷ []) frames
