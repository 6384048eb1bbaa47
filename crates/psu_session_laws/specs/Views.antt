-- A history of a session by what is received, what is taken to be written, and what the laws of an exchange see of it.
use Rattle.std.specs.Prelude.{ℕ, List, [], ◌∷◌, flat_map}
use Rattle.psu_hislip.specs.declared.side.Side.{Side}
use Rattle.psu_hislip.specs.declared.side.Side.TheVariants.{Sync, Async}
use Rattle.psu_session.specs.Events.{Event, BytesReceived, Came, Put, Did, Took, if_same}
use Rattle.psu_session_laws.specs.Exchanged as exchange

-- ---- taken bytes

-- what is taken from the output of a connection
abbrev pub taken_by : Side → Event → List ℕ
taken_by side (Took on bytes) = if_same side on bytes
taken_by side _ = []

abbrev pub taken : Side → List Event → List ℕ
taken side history = flat_map (taken_by side) history

-- ---- received bytes

abbrev pub bytes_received_by : Side → Event → List ℕ
bytes_received_by side (BytesReceived on received_bytes) = if_same side on received_bytes
bytes_received_by side _ = []

-- the bytes of a channel's stream
abbrev pub bytes_received : Side → List Event → List ℕ
bytes_received side history = flat_map (bytes_received_by side) history

-- ---- the events as the laws of an exchange see them

abbrev pub put_as : Side → List ℕ → List exchange.ExchangeEvent
put_as Sync frames = exchange.Replied frames ∷ []
put_as Async frames = []

abbrev pub exchange_view : Event → List exchange.ExchangeEvent
exchange_view (Came side message) = exchange.Came side message ∷ []
exchange_view (Put side frames) = put_as side frames
exchange_view (Did origin effect frames) = exchange.Did origin effect frames ∷ []
exchange_view _ = []

abbrev pub exchange_history : List Event → List exchange.ExchangeEvent
exchange_history history = flat_map exchange_view history
