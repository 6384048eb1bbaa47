-- The histories of a session, and that each is an exchange.
use Rattle.std.specs.Prelude.{◌≡◌, ℕ, List, [], ◌∷◌, ◌++◌, map}
use Rattle.psu_hislip.specs.Channel.{Fed}
use Rattle.psu_hislip.specs.Stream.{Received}
use Rattle.psu_hislip.specs.declared.side.Side.{Side}
use Rattle.psu_hislip.specs.declared.side.Side.TheVariants.{Sync, Async}
use Rattle.psu_session_laws.specs.Exchange.{IsExchange, core_at, orders}
use Rattle.psu_session.specs.Orders.{Turn}
use Rattle.psu_session_laws.specs.Exchanged.{written}
use Rattle.psu_session.specs.Events.{Event, put}
use Rattle.psu_session_laws.specs.Views.{bytes_received, exchange_history, taken}
use Rattle.psu_session.specs.Step.{IsOpening, IsHistory, IsReachable, Steps}
use Rattle.psu_session.specs.State.{Start, SessionState, orders_in, output}

-- The history is an exchange of the session's two streams of bytes, the first of which begins with the bytes that
-- opened the session; and it determines the state.
pub record IsExchangeHistory (start : Start) (history : List Event) (s : SessionState) : Type 0 where
  pub turns : List Turn
  pub exchange : (opening : List ℕ) (first : Received) → Fed start.sync opening (first ∷ []) → Fed start.async [] [] → IsExchange start.session (opening ++ bytes_received Sync history) (bytes_received Async history) (exchange_history history) turns
  pub core : s.core ≡ core_at start.session (exchange_history history)
  -- the transmissions that have no turn yet are in the queue
  pub waiting : orders start.session (exchange_history history) ≡ map (λ turn. turn.order) turns ++ orders_in s.waiting
  -- the bytes that were taken for the synchronous connection, then its output, are what the exchange sends
  pub sent : written (exchange_history history) ≡ taken Sync history ++ s.sync
  -- on each connection the bytes that were taken, then the output, are what was appended
  pub outputs : (side : Side) → put side history ≡ taken side history ++ output side s

abbrev pub HistoriesAreExchanges : Type 0
HistoriesAreExchanges = (start : Start) (history : List Event) (s : SessionState) → IsHistory start history s → IsExchangeHistory start history s

-- a history leads to this state, and it is an exchange
abbrev pub HasExchangeHistory : SessionState → Type 0
HasExchangeHistory s = (start : Start) × (history : List Event) × IsOpening start × IsHistory start history s × IsExchangeHistory start history s

-- so it is for each state to which a history leads
abbrev pub EachSessionIsAnExchange : Type 0
EachSessionIsAnExchange = (s : SessionState) → IsReachable s → HasExchangeHistory s

-- steps from a state extend each history that leads to it
abbrev pub HistoriesExtend : Type 0
HistoriesExtend = (start : Start) (history : List Event) (s : SessionState) (done : List Event) (t : SessionState) → IsHistory start history s → Steps s done t → IsHistory start (history ++ done) t
