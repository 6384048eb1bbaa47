-- The responses to lock messages. Source: the lock protocol of IVI-6.1; its codes are this project's profile.
use Rattle.std.specs.Prelude.{ℕ, Option, Some, None, Result, Ok, Err, if◌then◌else◌}
use Rattle.psu_locks.specs.declared.results.Grant.{Grant}
use Rattle.psu_locks.specs.declared.results.Grant.TheVariants.{Granted, Queued, Failed}
use Rattle.psu_locks.specs.declared.results.Freed.{Freed}
use Rattle.psu_locks.specs.declared.results.Freed.TheVariants.{Exclusive, Shared}
use Rattle.psu_locks.specs.declared.results.LockRefusal.{LockRefusal}
use Rattle.psu_locks.specs.declared.results.Info.{Info}
use Rattle.psu_hislip.specs.Frame.{header_of}
use Rattle.psu_hislip.specs.declared.header.Header.{Header}
use Rattle.psu_hislip.specs.declared.lock_responses.LockResponse.{LockResponse}
use Rattle.psu_hislip.specs.declared.lock_responses.LockResponse.TheVariants.{Failure, Success, SharedReleased, Error}
use Rattle.psu_hislip.specs.declared.message_type.MessageType.TheVariants.{AsyncLockResponse, AsyncLockInfoResponse}

abbrev pub lock_code : LockResponse → ℕ
lock_code Failure = 0
lock_code Success = 1
lock_code SharedReleased = 2
lock_code Error = 3

-- AsyncLockResponse has its result in its control code
abbrev pub lock_answer : LockResponse → Header
lock_answer response = header_of AsyncLockResponse (lock_code response) 0 0

-- a request that waits has no response yet
abbrev pub lock_response : Result Grant LockRefusal → Option Header
lock_response (Ok Granted) = Some (lock_answer Success)
lock_response (Ok Failed) = Some (lock_answer Failure)
lock_response (Ok Queued) = None
lock_response (Err refusal) = Some (lock_answer Error)

abbrev pub release_response : Result Freed LockRefusal → Header
release_response (Ok Exclusive) = lock_answer Success
release_response (Ok Shared) = lock_answer SharedReleased
release_response (Err refusal) = lock_answer Error

-- whether an exclusive lock is held, and how many sessions hold any
abbrev pub lock_info_response : Info → Header
lock_info_response info = header_of AsyncLockInfoResponse (if info.exclusive then 1 else 0) info.holders 0
