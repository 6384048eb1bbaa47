-- Releases of locks, over whole histories. Source: IVI-6.1 (a lock is released after the messages that its client sent
-- before it requested the release).
use Rattle.std.specs.Prelude.{◌≡◌, ℕ, zero, suc, ◌+◌, All, Result, List, [], ◌∷◌, ◌++◌, flat_map, map, length}
use Rattle.psu_locks.specs.declared.results.Freed.{Freed}
use Rattle.psu_locks.specs.declared.results.LockRefusal.{LockRefusal}
use Rattle.psu_hislip.specs.Action.{Act}
use Rattle.psu_session_laws.specs.Exchange.{HasEnded, acts_requested, orders}
use Rattle.psu_session.specs.Orders.{Order, Turn}
use Rattle.psu_session.specs.Events.{Event, LockReleased}
use Rattle.psu_session_laws.specs.Views.{exchange_history}
use Rattle.psu_session.specs.Step.{IsHistory, works_in}
use Rattle.psu_session.specs.State.{Start, SessionState, Work, Execute, ReleaseLock}

-- the replies of the device to the releases of a history
abbrev pub released_in : Event → List (Result Freed LockRefusal)
released_in (LockReleased reply) = reply ∷ []
released_in _ = []

abbrev pub released : List Event → List (Result Freed LockRefusal)
released history = flat_map released_in history

-- the transmissions and releases that messages request, in the order of these messages
abbrev pub requested_in : Act → List Work
requested_in Act.Release = ReleaseLock ∷ []
requested_in act = works_in act

abbrev pub requested : List Act → List Work
requested acts = flat_map requested_in acts

abbrev pub releases_in : List Work → ℕ
releases_in [] = 0
releases_in (Execute order ∷ works) = releases_in works
releases_in (ReleaseLock ∷ works) = suc (releases_in works)

-- the transmissions before a release, by the number of the release, from 0
abbrev pub before_release : ℕ → List Work → List Order
before_release number [] = []
before_release number (Execute order ∷ works) = order ∷ before_release number works
before_release zero (ReleaseLock ∷ works) = []
before_release (suc number) (ReleaseLock ∷ works) = before_release number works

-- Each release that was requested was done once, is in the queue, or waits for its message.
abbrev pub EachReleaseIsDone : Type 0
EachReleaseIsDone = (start : Start) (history : List Event) (s : SessionState) → IsHistory start history s
    → releases_in (requested (acts_requested start.session (exchange_history history))) ≡ length (released history) + (releases_in s.waiting + length s.releases)

-- After these events a release is in its place: the transmissions that were received before its request have ended.
pub record IsInPlace (session : ℕ) (before : List Event) : Type 0 where
  pub ended : List Turn
  pub each_ended : All (HasEnded session (exchange_history before)) ended
  pub others : List Order
  pub are : orders session (exchange_history before) ≡ map (λ turn. turn.order) ended ++ others
  pub later : List Order
  pub first : map (λ turn. turn.order) ended ≡ before_release (length (released before)) (requested (acts_requested session (exchange_history before))) ++ later

abbrev pub EachReleaseIsInPlace : Type 0
EachReleaseIsInPlace = (start : Start) (history : List Event) (s : SessionState) → IsHistory start history s → (before after : List Event) (reply : Result Freed LockRefusal) → history ≡ before ++ LockReleased reply ∷ after
    → IsInPlace start.session before
