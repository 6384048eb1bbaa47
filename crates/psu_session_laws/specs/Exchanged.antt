-- The events of an exchange, in their order. Source: IVI-6.1 (the two channels of a session; what is sent on the
-- synchronous one).
use Rattle.std.specs.Prelude.{ℕ, List, [], ◌∷◌, flat_map}
use Rattle.psu_hislip.specs.Stream.{Received}
use Rattle.psu_hislip.specs.Runs.{Arrival}
use Rattle.psu_hislip.specs.declared.action.Origin.{Origin}
use Rattle.psu_hislip.specs.declared.side.Side.{Side}
use Rattle.psu_hislip.specs.declared.side.Side.TheVariants.{Sync, Async}
use Rattle.psu_messages.specs.Effects.{Effect}

pub data ExchangeEvent : Type 0 where
  -- a message of a channel is passed to the session's core
  Came : Side → Received → ExchangeEvent
  -- a reply of the core to a message is sent on the synchronous connection
  Replied : List ℕ → ExchangeEvent
  -- an effect of the transmission of an origin, and the frames that are sent with it
  Did : Origin → Effect → List ℕ → ExchangeEvent

-- the messages, as the core receives them
abbrev pub arrivals_in : ExchangeEvent → List Arrival
arrivals_in (Came side message) = record { side = side; message = message } ∷ []
arrivals_in _ = []

abbrev pub came : List ExchangeEvent → List Arrival
came history = flat_map arrivals_in history

-- the messages of one channel
abbrev pub on : Side → Arrival → List Received
on side t = if_side side t.side t.message where
  if_side : Side → Side → Received → List Received
  if_side Sync Sync message = message ∷ []
  if_side Async Async message = message ∷ []
  if_side one other message = []

abbrev pub came_on : Side → List ExchangeEvent → List Received
came_on side history = flat_map (on side) (came history)

-- what was done for transmissions
abbrev pub execution_in : ExchangeEvent → List ExchangeEvent
execution_in (Did origin effect frames) = Did origin effect frames ∷ []
execution_in _ = []

abbrev pub executions : List ExchangeEvent → List ExchangeEvent
executions history = flat_map execution_in history

-- what is sent on the synchronous connection: replies of the core, and frames of responses
abbrev pub reply_in : ExchangeEvent → List (List ℕ)
reply_in (Replied frames) = frames ∷ []
reply_in _ = []

abbrev pub replied : List ExchangeEvent → List (List ℕ)
replied history = flat_map reply_in history

-- its bytes, in their order
abbrev pub bytes_in : ExchangeEvent → List ℕ
bytes_in (Came side message) = []
bytes_in (Replied frames) = frames
bytes_in (Did origin effect frames) = frames

abbrev pub written : List ExchangeEvent → List ℕ
written history = flat_map bytes_in history
