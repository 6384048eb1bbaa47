-- How much a session holds, over whole histories.
use Rattle.std.specs.Prelude.{◌≡◌, ℕ, ◌+◌, ◌*◌, Option, Some, None, List, [], ◌∷◌, length}
use Rattle.psu_session.specs.Credit.{cost_of}
use Rattle.psu_session.specs.Events.{Event}
use Rattle.psu_session.specs.Orders.{Order}
use Rattle.psu_session.specs.Step.{IsHistory}
use Rattle.psu_session.specs.State.{Running, Start, SessionState, orders_in}
use Rattle.psu_session_laws.specs.Releases.{releases_in}

-- what transmissions count as, together
abbrev pub costs : List Order → ℕ
costs [] = 0
costs (order ∷ orders) = cost_of order + costs orders

-- what the transmission in execution counts as
abbrev pub cost_running : Option Running → ℕ
cost_running None = 0
cost_running (Some running) = cost_of running.order

-- What is held is counted: the transmissions that are queued and the one in execution.
abbrev pub EachTransmissionIsCounted : Type 0
EachTransmissionIsCounted = (start : Start) (history : List Event) (s : SessionState) → IsHistory start history s → s.held ≡ costs (orders_in s.waiting) + cost_running s.running

-- And so are the releases that are queued or wait for a message.
abbrev pub EachReleaseIsCounted : Type 0
EachReleaseIsCounted = (start : Start) (history : List Event) (s : SessionState) → IsHistory start history s → s.owed ≡ 128 * (releases_in s.waiting + length s.releases)
