-- What a file has, and what a power loss may change of it: a function of the calls on it and of their results, whatever
-- these are. It is the model of a file that keeps what a successful sync confirmed, and that no one else writes: a
-- power loss may leave what `IsCrashImage` says of `disk_in`.
use Rattle.std.specs.Prelude.{◌≡◌, ◌==◌, ◌+◌, ◌≤◌, ⊤, ℕ, zero, suc, Bool, true, false, not, List, [], ◌∷◌, ◌++◌, length, take, drop, replicate, map, slice_index, slice_index_or, if◌then◌else◌, Some, None}
use Rattle.psu_disk.specs.Disk.{DiskState}
use Rattle.psu_disk.specs.Memory.{memory, marked}
use Rattle.psu_disk.specs.FileCalls.{FileCall}
use Rattle.psu_disk.specs.declared.file_calls.LockAnswer.{LockAnswer}
use Rattle.psu_disk.specs.declared.file_calls.LockAnswer.TheVariants.{Locked, InUse, NoLocks, Failed}

pub record FileModel : Type 0 where
  -- each byte as it was last read or given to a write
  pub bytes : List ℕ
  -- which bytes a power loss may change
  pub unsynced : List Bool
  -- which of these no sync makes durable until they are written again
  pub forgotten : List Bool

abbrev pub disk_in : FileModel → DiskState
disk_in m = memory m.bytes m.unsynced

abbrev pub forgotten_in : FileModel → ℕ → Bool
forgotten_in m k = slice_index_or m.forgotten k false

-- the list with these elements at `at`
abbrev pub replaced : List ℕ → ℕ → List ℕ → List ℕ
replaced old at bytes = take at old ++ (bytes ++ drop (at + length bytes) old)

-- A read says what the file has there. One that failed says nothing.
abbrev pub after_read : Bool → ℕ → List ℕ → FileModel → FileModel
after_read true at bytes m = record { bytes = replaced m.bytes at bytes; unsynced = m.unsynced; forgotten = m.forgotten }
after_read false at bytes m = m

-- A successful sync makes each byte durable that isn't forgotten. A failed one may forget each that isn't durable.
abbrev pub after_sync : Bool → FileModel → FileModel
after_sync true m = record { bytes = m.bytes; unsynced = m.forgotten; forgotten = m.forgotten }
after_sync false m = record { bytes = m.bytes; unsynced = m.unsynced; forgotten = m.unsynced }

-- after a call
abbrev pub after_call : FileCall → FileModel → FileModel
after_call (FileCall.ReadAt at bytes worked) m = after_read worked at bytes m
after_call (FileCall.WriteAt at bytes worked) m = record {
  bytes = replaced m.bytes at bytes;
  unsynced = marked true at (length bytes) m.unsynced;
  forgotten = marked (not worked) at (length bytes) m.forgotten;
}
after_call (FileCall.SyncData worked) m = after_sync worked m
after_call (FileCall.SyncAll worked) m = after_sync worked m
after_call (FileCall.Looked seen) m = m
after_call (FileCall.TriedLock answer) m = m

-- A file of this length as it is opened, of which these bytes may be unsynced. Nothing of it was read yet.
abbrev pub at_opening : ℕ → List Bool → FileModel
at_opening size unsynced = record { bytes = replicate size 0; unsynced = take size (unsynced ++ replicate size false); forgotten = replicate size false }

-- after these calls, of which the newest comes first
abbrev pub replay : FileModel → List FileCall → FileModel
replay start [] = start
replay start (call ∷ earlier) = after_call call (replay start earlier)

-- the states before each of them, the oldest first
abbrev pub passed : FileModel → List FileCall → List DiskState
passed start [] = []
passed start (call ∷ earlier) = passed start earlier ++ disk_in (replay start earlier) ∷ []

-- ---- the record of the calls

-- Which bytes may be unsynced as the file is opened, and the calls since, of which the newest comes first, each as
-- numbers and bytes.
abbrev pub Recorded : Type 0
Recorded = List Bool × List (List ℕ × List ℕ)

-- an answer as a number
abbrev pub lock_answer : ℕ → LockAnswer
lock_answer zero = Locked
lock_answer (suc zero) = InUse
lock_answer (suc (suc zero)) = NoLocks
lock_answer more = Failed

-- which call, and then what it is of
abbrev pub call_with : ℕ → List ℕ → List ℕ → FileCall
call_with zero numbers bytes = FileCall.ReadAt (slice_index numbers 1) bytes (slice_index numbers 2 == 1)
call_with (suc zero) numbers bytes = FileCall.WriteAt (slice_index numbers 1) bytes (slice_index numbers 2 == 1)
call_with (suc (suc zero)) numbers bytes = FileCall.SyncData (slice_index numbers 1 == 1)
call_with (suc (suc (suc zero))) numbers bytes = FileCall.SyncAll (slice_index numbers 1 == 1)
call_with (suc (suc (suc (suc zero)))) numbers bytes = FileCall.Looked (if slice_index numbers 1 == 1 then Some (record { length = slice_index numbers 2; names = slice_index numbers 3; is_file = slice_index numbers 4 == 1 }) else None)
call_with more numbers bytes = FileCall.TriedLock (lock_answer (slice_index numbers 1))

abbrev pub call_of : List ℕ × List ℕ → FileCall
call_of noted = call_with (slice_index noted.0 0) noted.0 noted.1

abbrev pub calls_of : Recorded → List FileCall
calls_of noted = map call_of noted.1

-- what a file of this length has after what is recorded
abbrev pub model_of : ℕ → Recorded → FileModel
model_of size noted = replay (at_opening size noted.0) (calls_of noted)

abbrev pub past_of : ℕ → Recorded → List DiskState
past_of size noted = passed (at_opening size noted.0) (calls_of noted)

-- a call within a file of this length
abbrev pub IsWithin : ℕ → FileCall → Type 0
IsWithin size (FileCall.ReadAt at bytes worked) = at + length bytes ≤ size
IsWithin size (FileCall.WriteAt at bytes worked) = at + length bytes ≤ size
IsWithin size call = ⊤

-- this call was recorded, of a file of this length, and nothing else
pub record IsNoted (size : ℕ) (old : Recorded) (call : FileCall) (new : Recorded) : Type 0 where
  pub calls : calls_of new ≡ call ∷ calls_of old
  pub start : new.0 ≡ old.0
  pub within : IsWithin size call

-- What holds of it always: a byte that is forgotten is one that a power loss may change.
pub record IsSound (size : ℕ) (m : FileModel) : Type 0 where
  pub bytes : length m.bytes ≡ size
  pub unsynced : length m.unsynced ≡ size
  pub forgotten : length m.forgotten ≡ size
  pub at_risk : (k : ℕ) → slice_index_or m.forgotten k false ≡ true → slice_index_or m.unsynced k false ≡ true
