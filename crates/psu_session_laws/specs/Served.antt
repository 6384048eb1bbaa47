-- The laws of an exchange, of a session whose history leads to a state.
use Rattle.std.specs.Prelude.{◌≡◌, ℕ, ◌^◌, ◌<◌, true, ◌++◌, All, List, [], ◌∷◌, length}
use Rattle.psu_hislip.specs.Channel.{Fed}
use Rattle.psu_hislip.specs.Runs.{begins_clear, origins}
use Rattle.psu_hislip.specs.Stream.{Received}
use Rattle.psu_hislip.specs.declared.action.Origin.{Origin}
use Rattle.psu_hislip.specs.declared.side.Side.TheVariants.{Sync, Async}
use Rattle.psu_messages.specs.Effects.{Effect}
use Rattle.psu_session_laws.specs.Answered.{AreTheClients, AreTheStreams, EachIsWholeOrEnded, IsAnswered, TakesAtMost, Weaves, pieces}
use Rattle.psu_session.specs.Orders.{Turn}
use Rattle.psu_session_laws.specs.Exchange.{acts_requested}
use Rattle.psu_session_laws.specs.Exchanged.{came, replied}
use Rattle.psu_session.specs.Events.{Event, Came, Did}
use Rattle.psu_session_laws.specs.Views.{bytes_received, exchange_history, taken}
use Rattle.psu_session.specs.Step.{IsHistory}
use Rattle.psu_session.specs.State.{Start, SessionState}

pub record AnswersInOrder (start : Start) (opening : List ℕ) (history : List Event) (s : SessionState) : Type 0 where
  pub turns : List Turn
  -- the messages that the core received are those of the bytes of the two connections
  pub streams : AreTheStreams (opening ++ bytes_received Sync history) (bytes_received Async history) (exchange_history history)
  -- where the messages come in their order, the transmissions that are executed are those that the client sent, in
  -- order and once each, and none that a device clear cut off
  pub transmissions : AreTheClients (exchange_history history) s.core.failed turns
  -- each transmission that is over is answered, message by message, under its MessageID; of another, a prefix of this
  -- was sent
  pub answered : (greatest : ℕ) → TakesAtMost greatest start.session (exchange_history history) → All (IsAnswered greatest) turns × EachIsWholeOrEnded greatest start.session (exchange_history history) turns
  -- after an AsyncDeviceClear nothing is done for what was received before it (clears are counted modulo 2^64)
  pub cleared : length (came (exchange_history history)) < 2 ^ 64 → (before between after : List Event) (clear : Received) (origin : Origin) (effect : Effect) (frames : List ℕ)
      → history ≡ before ++ Came Async clear ∷ (between ++ Did origin effect frames ∷ after) → begins_clear (record { side = Async; message = clear }) ≡ true
      → All (λ o. o ≡ origin → ⊥) (origins (acts_requested start.session (exchange_history before)))
  -- the bytes that were taken for the synchronous connection, then its output, are the core's replies and the frames of
  -- the transmissions, each in their order
  pub sent : Weaves (replied (exchange_history history)) (pieces turns) (taken Sync history ++ s.sync)

abbrev pub EachSessionAnswersInOrder : Type 0
EachSessionAnswersInOrder = (start : Start) (opening : List ℕ) (first : Received) (history : List Event) (s : SessionState) → Fed start.sync opening (first ∷ []) → Fed start.async [] [] → IsHistory start history s → AnswersInOrder start opening history s
