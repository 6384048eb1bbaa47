-- The calls on the locks, each with its reply and the locks after it.
-- Source: the lock protocol of IVI-6.1 (HiSLIP), with the rules of psu_locks.
use Rattle.std.specs.Prelude.{◌≡◌, ℕ, max, Some, None, Result, Ok, Err, List}
use Rattle.psu_locks.specs.Locks.{Locks, after_grant, at_moment, failed_at, freed_of, grant_of, granted, looked_through, of_others, request_refusal, still_waiting, without, without_session}
use Rattle.psu_locks.specs.declared.requests.Kind.{Kind}
use Rattle.psu_locks.specs.declared.results.Grant.{Grant}
use Rattle.psu_locks.specs.declared.results.Freed.{Freed}
use Rattle.psu_locks.specs.declared.results.LockRefusal.{LockRefusal}
use Rattle.psu_locks.specs.declared.results.LockRefusal.TheVariants.{NotHeld}

-- ---- a session requests a lock

abbrev pub MayLock : Locks → ℕ → Kind → ℕ → Result Grant LockRefusal → Type 0
MayLock l session kind timeout (Ok grant) = (request_refusal l session kind ≡ None) × (grant ≡ grant_of l session kind timeout)
MayLock l session kind timeout (Err refusal) = request_refusal l session kind ≡ Some refusal

abbrev pub after_lock : Locks → ℕ → Kind → ℕ → ℕ → Result Grant LockRefusal → Locks
after_lock l session kind now timeout (Ok grant) = after_grant (at_moment l now) session kind timeout grant
after_lock l session kind now timeout (Err refusal) = l

-- ---- a session releases a lock; the sessions are those whose waiting requests are then granted

abbrev pub MayRelease : Locks → ℕ → Result (Freed × List ℕ) LockRefusal → Type 0
MayRelease l session (Ok r) = (freed_of l.holders session ≡ Some r.0) × (r.1 ≡ granted (without l.holders session r.0) l.waiting)
MayRelease l session (Err refusal) = (refusal ≡ NotHeld) × (freed_of l.holders session ≡ None)

abbrev pub after_release : Locks → ℕ → Result (Freed × List ℕ) LockRefusal → Locks
after_release l session (Ok r) = looked_through l (without l.holders session r.0) l.waiting
after_release l session (Err refusal) = l

-- ---- time advances: the sessions whose requests fail, and the requests that continue to wait

abbrev pub failed_by : Locks → ℕ → List ℕ
failed_by l now = failed_at (max l.latest now) l.waiting

abbrev pub after_tick : Locks → ℕ → Locks
after_tick l now = record (at_moment l now) { waiting = still_waiting (max l.latest now) l.waiting }

-- ---- a session closes: its locks and its request are dropped

abbrev pub granted_closed : Locks → ℕ → List ℕ
granted_closed l session = granted (without_session l.holders session) (of_others session l.waiting)

abbrev pub locks_closed : Locks → ℕ → Locks
locks_closed l session = looked_through l (without_session l.holders session) (of_others session l.waiting)
