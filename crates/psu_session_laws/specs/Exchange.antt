-- An exchange: the messages of a session, what is executed for them, and what is sent. Source: IVI-6.1 (messages of two
-- streams; MessageIDs; device clear) and IEEE 488.2, 6 (messages are executed in the order of their arrival).
use Rattle.std.specs.Prelude.{◌≡◌, ◌⊎◌, ℕ, All, List, [], ◌∷◌, ◌++◌, map, flat_map}
use Rattle.psu_hislip.specs.Action.{Act}
use Rattle.psu_hislip.specs.Answer.{answer_size}
use Rattle.psu_hislip.specs.Core.{Core, IsCurrent}
use Rattle.psu_hislip.specs.Runs.{actions_of, core_after, origins, started}
use Rattle.psu_hislip.specs.Stream.{IsStream, Received}
use Rattle.psu_hislip.specs.declared.action.Origin.{Origin}
use Rattle.psu_hislip.specs.declared.side.Side.TheVariants.{Sync, Async}
use Rattle.psu_messages.specs.Executions.{Reaches, IsOver}
use Rattle.psu_messages.specs.Effects.{Effect}
use Rattle.psu_session.specs.Orders.{IsFramed, Order, Turn, effects, order_in}
use Rattle.psu_session_laws.specs.Exchanged.{ExchangeEvent, Did, came, came_on, executions, replied}

-- the session's core after these events
abbrev pub core_at : ℕ → List ExchangeEvent → Core
core_at session history = core_after (started session) (came history)

-- what the messages request
abbrev pub acts_requested : ℕ → List ExchangeEvent → List Act
acts_requested session history = actions_of (started session) (came history)

-- ---- what is to be executed

-- the transmissions that the messages request
abbrev pub orders : ℕ → List ExchangeEvent → List Order
orders session history = flat_map order_in (acts_requested session history)

-- the events of a transmission
abbrev pub happened : Turn → List ExchangeEvent
happened turn = map (λ d. Did turn.order.origin d.effect d.frames) turn.done

-- At a moment after the message of this origin was received, a device clear or a FatalError had ended its transmission.
-- (Clears are counted modulo 2^64, so at a later moment the origin may be current again.)
pub record IsGone (session : ℕ) (history : List ExchangeEvent) (origin : Origin) : Type 0 where
  pub before : List ExchangeEvent
  pub after : List ExchangeEvent
  pub is : history ≡ before ++ after
  pub has_come : (first : List Origin) × (others : List Origin) × (origins (acts_requested session before) ≡ first ++ origin ∷ others)
  pub gone : IsCurrent (core_at session before) origin → ⊥

-- a transmission is over, or a device clear or a FatalError has ended it
abbrev pub HasEnded : ℕ → List ExchangeEvent → Turn → Type 0
HasEnded session history turn = IsOver turn.order.source turn.progress ⊎ IsGone session history turn.order.origin

-- each has ended but the last
abbrev pub EachEnds : ℕ → List ExchangeEvent → List Turn → Type 0
EachEnds session history [] = Unit {0}
EachEnds session history (turn ∷ []) = Unit {0}
EachEnds session history (turn ∷ next ∷ later) = HasEnded session history turn × EachEnds session history (next ∷ later)

-- ---- what is sent

-- What is done for a transmission is done after the message that requested it, and not after a device clear or a
-- FatalError that has ended it. Payloads are as long as the client accepts at that time.
pub record IsDone (session : ℕ) (before : List ExchangeEvent) (origin : Origin) (effect : Effect) (frames : List ℕ) : Type 0 where
  pub has_come : (first : List Origin) × (others : List Origin) × (origins (acts_requested session before) ≡ first ++ origin ∷ others)
  pub current : IsCurrent (core_at session before) origin
  pub framed : IsFramed (answer_size (core_at session before).size) origin.id effect frames

abbrev pub EachIsDone : ℕ → List ExchangeEvent → Type 0
EachIsDone session history =
    (before after : List ExchangeEvent) (origin : Origin) (effect : Effect) (frames : List ℕ) → history ≡ before ++ Did origin effect frames ∷ after → IsDone session before origin effect frames

-- what the core replies on the synchronous channel to messages
abbrev pub reply_of : Act → List (List ℕ)
reply_of (Act.Send Sync frames) = frames ∷ []
reply_of act = []

abbrev pub replies : ℕ → List ExchangeEvent → List (List ℕ)
replies session history = flat_map reply_of (acts_requested session history)

-- at each moment the first of the replies that were requested by then are sent
abbrev pub EachIsReplied : ℕ → List ExchangeEvent → Type 0
EachIsReplied session history = (before after : List ExchangeEvent) → history ≡ before ++ after → (owed : List (List ℕ)) × (replies session before ≡ replied before ++ owed)

-- ---- a session

-- These are a session's two streams, its events and its transmissions. Its first message began it, and is not passed to
-- the core.
pub record IsExchange (session : ℕ) (sync async : List ℕ) (history : List ExchangeEvent) (turns : List Turn) : Type 0 where
  pub first : Received
  pub sync_messages : IsStream sync (first ∷ came_on Sync history)
  pub async_messages : IsStream async (came_on Async history)
  -- transmissions are executed in the order of their arrival, each once, and one after another
  pub waiting : List Order
  pub in_order : orders session history ≡ map (λ turn. turn.order) turns ++ waiting
  pub turns_done : executions history ≡ flat_map happened turns
  pub reached : All (λ turn. Reaches turn.order.source (effects turn.done) turn.progress) turns
  pub ends : EachEnds session history turns
  -- and what is sent are their responses and the core's replies
  pub done : EachIsDone session history
  pub replies_sent : EachIsReplied session history
