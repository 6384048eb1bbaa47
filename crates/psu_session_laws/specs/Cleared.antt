-- Device clears, over whole histories. Source: IVI-6.1 (the client discards what it receives on the synchronous
-- connection before DeviceClearAcknowledge, so this is sent after every response to what was received before the
-- clear).
use Rattle.std.specs.Prelude.{◌≡◌, ℕ, ◌^◌, ◌<◌, true, All, List, [], ◌∷◌, ◌++◌, flat_map, length}
use Rattle.psu_hislip.specs.Channel.{Fed}
use Rattle.psu_hislip.specs.Runs.{begins_clear, origins}
use Rattle.psu_hislip.specs.Stream.{Received}
use Rattle.psu_hislip.specs.declared.action.Origin.{Origin}
use Rattle.psu_hislip.specs.declared.side.Side.TheVariants.{Sync, Async}
use Rattle.psu_session_laws.specs.Exchange.{acts_requested}
use Rattle.psu_session_laws.specs.Exchanged.{came}
use Rattle.psu_session.specs.Events.{Event, Came, Put, Did, put}
use Rattle.psu_session_laws.specs.Views.{exchange_history, taken}
use Rattle.psu_session.specs.Step.{IsHistory}
use Rattle.psu_session.specs.State.{Start, SessionState}

-- the origins of the transmissions that have effects
abbrev pub worked_in : Event → List Origin
worked_in (Did origin effect frames) = origin ∷ []
worked_in _ = []

abbrev pub worked : List Event → List Origin
worked history = flat_map worked_in history

-- none of these transmissions was received before
abbrev pub AreNew : ℕ → List Event → List Origin → Type 0
AreNew session before new = All (λ origin. All (λ old. old ≡ origin → ⊥) (origins (acts_requested session (exchange_history before)))) new

-- A device clear begins after the events of before, and a reply of the core on the synchronous connection, as its
-- DeviceClearAcknowledge, is between two parts of what follows. Neither part has a response to what was received before
-- the clear: the client receives each such response before the reply.
pub record IsAfterResponses (session : ℕ) (before between : List Event) (reply : List ℕ) (after history : List Event) (s : SessionState) : Type 0 where
  pub sent : taken Sync history ++ s.sync ≡ put Sync before ++ (put Sync between ++ (reply ++ put Sync after))
  pub until_then : AreNew session before (worked between)
  pub from_then : AreNew session before (worked after)

-- (of fewer than 2^64 messages, since clears are counted modulo 2^64)
abbrev pub EachClearIsAcknowledgedLast : Type 0
EachClearIsAcknowledgedLast = (start : Start) (opening : List ℕ) (first : Received) (history : List Event) (s : SessionState) → Fed start.sync opening (first ∷ []) → Fed start.async [] [] → IsHistory start history s → length (came (exchange_history history)) < 2 ^ 64
    → (before between after : List Event) (clear : Received) (reply : List ℕ) → history ≡ before ++ Came Async clear ∷ (between ++ Put Sync reply ∷ after) → begins_clear (record { side = Async; message = clear }) ≡ true
    → IsAfterResponses start.session before between reply after history s
