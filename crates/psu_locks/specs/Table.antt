-- Invariants of the locks, in the form in which callers use them.
use Rattle.std.specs.Prelude.{◌≡◌, ◌≢◌, ◌<◌, ◌≤◌, ℕ, ⊤, true, false, Option, Some, List, [], ◌∷◌, map, min}
use Rattle.std.specs.List.{reduce}
use Rattle.psu_locks.specs.declared.holders.Holders.{Holders}
use Rattle.psu_locks.specs.declared.requests.LockRequest.{LockRequest}
use Rattle.psu_locks.specs.Locks.{Locks, can_grant, may_command, waits, failed_at}

-- each request is of a different session, numbered 1 to 16: a session has at most one waiting request
abbrev pub AreWaiting : List LockRequest → Type 0
AreWaiting [] = ⊤
AreWaiting (r ∷ rs) = (1 ≤ r.session) × (r.session ≤ 16) × (waits rs r.session ≡ false) × AreWaiting rs

-- none of the requests can be granted
abbrev pub NoneCanBeGranted : Holders → List LockRequest → Type 0
NoneCanBeGranted h [] = ⊤
NoneCanBeGranted h (r ∷ rs) = (can_grant h r.session r.kind ≡ false) × NoneCanBeGranted h rs

-- The state after every call: every request that could be granted is granted.
pub record IsSettled (l : Locks) : Type 0 where
  pub one_each : AreWaiting l.waiting
  pub none_left : NoneCanBeGranted l.holders l.waiting

-- while the exclusive lock is held, only its holder may execute commands
abbrev pub CommandsAlone : Holders → ℕ → Type 0
CommandsAlone h session = (holder : ℕ) → h.exclusive ≡ Some holder → may_command h session ≡ true → session ≡ holder

-- the least of the deadlines, if a request waits
abbrev pub next_deadline : List LockRequest → Option ℕ
next_deadline requests = reduce min (map (λ r. r.deadline) requests)

-- a tick before this time fails no request, and a tick at it fails one
pub record FailsFirst (requests : List LockRequest) (deadline : ℕ) : Type 0 where
  pub before : (now : ℕ) → now < deadline → failed_at now requests ≡ []
  pub then : failed_at deadline requests ≢ []
