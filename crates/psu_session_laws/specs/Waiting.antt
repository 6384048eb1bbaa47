-- Lock requests that wait, over whole histories. Source: IVI-6.1 (a lock request has one response, once the lock is
-- granted or the timeout is over).
use Rattle.std.specs.Prelude.{◌≡◌, ℕ, true, false, Result, List, ◌∷◌, ◌++◌}
use Rattle.psu_locks.specs.declared.results.Grant.{Grant}
use Rattle.psu_locks.specs.declared.requests.Kind.{Kind}
use Rattle.psu_locks.specs.declared.results.LockRefusal.{LockRefusal}
use Rattle.psu_session.specs.Events.{DeviceCalled, Event, LockGranted, Locked, waits_after}
use Rattle.psu_session.specs.Step.{IsHistory}
use Rattle.psu_session.specs.State.{Start, SessionState}

-- The state says whether a lock request waits.
abbrev pub TheWaitIsKnown : Type 0
TheWaitIsKnown = (start : Start) (history : List Event) (s : SessionState) → IsHistory start history s → s.lock_waits ≡ waits_after false history

-- A result is passed on only while a lock request waits, which then waits no longer: it is answered at most once.
abbrev pub EachWaitIsAnsweredOnce : Type 0
EachWaitIsAnsweredOnce = (start : Start) (history : List Event) (s : SessionState) → IsHistory start history s → (before after : List Event) (grant : Grant) → history ≡ before ++ LockGranted grant ∷ after → waits_after false before ≡ true

-- A lock is requested of the device only while no request waits: at most one waits at a time.
abbrev pub OneRequestWaits : Type 0
OneRequestWaits = (start : Start) (history : List Event) (s : SessionState) → IsHistory start history s → (before after : List Event) (kind : Kind) (timeout : ℕ) (reply : Result Grant LockRefusal) → history ≡ before ++ DeviceCalled (Locked kind timeout reply) ∷ after
    → waits_after false before ≡ false
