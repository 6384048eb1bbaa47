-- The locks: an exclusive holder or none, a shared string with its holders, and the waiting requests in order of
-- arrival. Source: the lock protocol of IVI-6.1 (HiSLIP); the rules of grant and release are this project's profile.
use Rattle.std.specs.Prelude.{ℕ, ◌+◌, ◌-◌, ◌==◌, ◌&&◌, ◌||◌, not, max, nat_le, Bool, true, false, if◌then◌else◌, Option, Some, None, is_none, is_some, List, [], ◌∷◌, ◌++◌, slice_index_or, slice_set, filter, map, count_by, replicate}
use Rattle.std.specs.List.{list_any}
use Rattle.std.specs.Str.{bytes_eq}
use Rattle.psu_locks.specs.declared.requests.Kind.{Kind}
use Rattle.psu_locks.specs.declared.requests.Kind.TheVariants.{Exclusive, Shared}
use Rattle.psu_locks.specs.declared.requests.LockRequest.{LockRequest}
use Rattle.psu_locks.specs.declared.results.LockRefusal.{LockRefusal}
use Rattle.psu_locks.specs.declared.results.LockRefusal.TheVariants.{AlreadyHeld, Waiting}
use Rattle.psu_locks.specs.declared.results.Grant.{Grant}
use Rattle.psu_locks.specs.declared.results.Grant.TheVariants.{Granted, Queued, Failed}
use Rattle.psu_locks.specs.declared.results.Freed.{Freed}
use Rattle.psu_locks.specs.declared.results.Freed.TheVariants as freed
use Rattle.psu_locks.specs.declared.results.Info.{Info}
use Rattle.psu_locks.specs.declared.holders.Holders.{Holders}

-- The holders, the waiting requests in order of arrival, and the latest time passed so far.
pub record Locks : Type 0 where
  pub holders : Holders
  pub waiting : List LockRequest
  pub latest : ℕ

-- # Holders

abbrev pub is_session : Option ℕ → ℕ → Bool
is_session None session = false
is_session (Some holder) session = holder == session

abbrev pub holds_exclusive : Holders → ℕ → Bool
holds_exclusive h session = is_session h.exclusive session

-- each session has a flag, in the order of the session numbers
abbrev pub shares : Holders → ℕ → Bool
shares h session = slice_index_or h.sharers (session - 1) false

abbrev pub is_shared : Holders → Bool
is_shared h = list_any (λ flag. flag) h.sharers

abbrev pub with_exclusive : Holders → Option ℕ → Holders
with_exclusive h holder = record { exclusive = holder; string = h.string; sharers = h.sharers }

abbrev pub with_sharer : Holders → ℕ → Bool → Holders
with_sharer h session flag = record { exclusive = h.exclusive; string = h.string; sharers = slice_set h.sharers (session - 1) flag }

abbrev pub with_string : Holders → List ℕ → Holders
with_string h string = record { exclusive = h.exclusive; string = string; sharers = h.sharers }

-- # Which sessions may execute commands, and which locks can be granted

-- While an exclusive lock is held only its holder may execute commands; otherwise the holders of the shared string;
-- with no lock held every session.
abbrev pub may_command : Holders → ℕ → Bool
may_command h session = if is_some h.exclusive then holds_exclusive h session else not (is_shared h) || shares h session

-- Exclusive: no session holds it, and no session shares, or the requesting session does. Shared: no other session holds
-- the exclusive lock, and no session shares, or the string is the shared one.
abbrev pub can_grant : Holders → ℕ → Kind → Bool
can_grant h session Exclusive = is_none h.exclusive && (not (is_shared h) || shares h session)
can_grant h session (Shared string) = (is_none h.exclusive || holds_exclusive h session) && (not (is_shared h) || bytes_eq h.string string)

abbrev pub with_grant : Holders → ℕ → Kind → Holders
with_grant h session Exclusive = with_exclusive h (Some session)
with_grant h session (Shared string) = with_sharer (with_string h string) session true

-- the session holds a lock of this kind, under any string
abbrev pub holds_kind : Holders → ℕ → Kind → Bool
holds_kind h session Exclusive = holds_exclusive h session
holds_kind h session (Shared string) = shares h session

-- # Waiting requests

abbrev pub is_of : ℕ → LockRequest → Bool
is_of session request = request.session == session

abbrev pub waits : List LockRequest → ℕ → Bool
waits requests session = list_any (is_of session) requests

-- Each request in order is granted if it can be: the holders after that, the requests that still wait, and the sessions
-- whose requests were granted.
abbrev pub holders_after : Holders → List LockRequest → Holders
holders_after h [] = h
holders_after h (r ∷ rs) = if can_grant h r.session r.kind then holders_after (with_grant h r.session r.kind) rs else holders_after h rs

abbrev pub kept : Holders → List LockRequest → List LockRequest
kept h [] = []
kept h (r ∷ rs) = if can_grant h r.session r.kind then kept (with_grant h r.session r.kind) rs else r ∷ kept h rs

abbrev pub granted : Holders → List LockRequest → List ℕ
granted h [] = []
granted h (r ∷ rs) = if can_grant h r.session r.kind then r.session ∷ granted (with_grant h r.session r.kind) rs else granted h rs

-- the locks with these holders, after going through the waiting requests
abbrev pub looked_through : Locks → Holders → List LockRequest → Locks
looked_through l h requests = record { holders = holders_after h requests; waiting = kept h requests; latest = l.latest }

-- # The calls

-- no lock is held, and no request waits
abbrev pub no_locks : List ℕ → Locks
no_locks string = record { holders = record { exclusive = None; string = string; sharers = replicate 16 false }; waiting = []; latest = 0 }

-- a time before the latest one so far counts as the latest
abbrev pub at_moment : Locks → ℕ → Locks
at_moment l now = record { holders = l.holders; waiting = l.waiting; latest = max l.latest now }

-- the reason for which a request is refused, if it is
abbrev pub request_refusal : Locks → ℕ → Kind → Option LockRefusal
request_refusal l session kind =
    if holds_kind l.holders session kind then Some AlreadyHeld
    else (if waits l.waiting session then Some Waiting else None)

-- the immediate result of a request that is not refused
abbrev pub grant_of : Locks → ℕ → Kind → ℕ → Grant
grant_of l session kind timeout =
    if can_grant l.holders session kind then Granted
    else (if timeout == 0 then Failed else Queued)

abbrev pub after_grant : Locks → ℕ → Kind → ℕ → Grant → Locks
after_grant l session kind timeout Granted = record l { holders = with_grant l.holders session kind }
after_grant l session kind timeout Failed = l
after_grant l session kind timeout Queued = record l { waiting = l.waiting ++ record { session = session; kind = kind; deadline = l.latest + timeout } ∷ [] }

-- the lock that a release releases: the exclusive lock if the session holds it, otherwise the shared one
abbrev pub freed_of : Holders → ℕ → Option Freed
freed_of h session =
    if holds_exclusive h session then Some freed.Exclusive
    else (if shares h session then Some freed.Shared else None)

abbrev pub without : Holders → ℕ → Freed → Holders
without h session freed.Exclusive = with_exclusive h None
without h session freed.Shared = with_sharer h session false

-- the request has reached its deadline and fails
abbrev pub is_expired : ℕ → LockRequest → Bool
is_expired now request = nat_le request.deadline now

abbrev pub failed_at : ℕ → List LockRequest → List ℕ
failed_at now requests = map (λ r. r.session) (filter (is_expired now) requests)

abbrev pub still_waiting : ℕ → List LockRequest → List LockRequest
still_waiting now requests = filter (λ r. not (is_expired now r)) requests

-- all locks of a session are released
abbrev pub without_session : Holders → ℕ → Holders
without_session h session = with_sharer (if holds_exclusive h session then with_exclusive h None else h) session false

-- the requests of the other sessions
abbrev pub of_others : ℕ → List LockRequest → List LockRequest
of_others session requests = filter (λ r. not (is_of session r)) requests

-- the flags of all sessions that hold a lock; the exclusive holder may share too
abbrev pub holding : Option ℕ → List Bool → List Bool
holding None sharers = sharers
holding (Some holder) sharers = slice_set sharers (holder - 1) true

abbrev pub info_of : Holders → Info
info_of h = record { exclusive = is_some h.exclusive; holders = count_by (λ flag. flag) (holding h.exclusive h.sharers) }
