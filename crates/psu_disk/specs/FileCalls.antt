-- The system's calls on a file, as data: what each asked, and what it returned. The calls are those of POSIX.1-2017:
-- pread, pwrite, fdatasync, fsync, fstat, open, unlink, and flock of the systems that have it.
use Rattle.std.specs.Prelude.{◌≡◌, ◌⊎◌, ◌↔◌, ◌+◌, ◌<◌, IsTrue, ⊤, ℕ, Bool, true, false, List, [], ◌∷◌, length, replicate, Option, Some, None}
use Rattle.psu_disk.specs.Disk.{DiskState, Range, Holds, IsFlagged, Touches}
use Rattle.psu_disk.specs.Medium.{NoneMore, IsKnown, Settles}
use Rattle.psu_disk.specs.declared.file_calls.FileFacts.{FileFacts}
use Rattle.psu_disk.specs.declared.file_calls.LockAnswer.{LockAnswer}
use Rattle.psu_disk.specs.declared.file_calls.LockAnswer.TheVariants.{Locked, InUse, NoLocks, Failed}

-- A call on an open file. A Bool says whether it succeeded.
pub data FileCall : Type 0 where
  -- bytes were requested from this offset on, and these are what the caller's buffer then has
  ReadAt : ℕ → List ℕ → Bool → FileCall
  WriteAt : ℕ → List ℕ → Bool → FileCall
  SyncData : Bool → FileCall
  SyncAll : Bool → FileCall
  Looked : Option FileFacts → FileCall
  TriedLock : LockAnswer → FileCall

-- A call on paths.
pub data PathCall (F : Type 0) : Type 0 where
  -- the file at this path was opened
  Opened : List ℕ → F → PathCall F
  -- a new file was created at this path, where there was none
  Created : List ℕ → F → PathCall F
  -- no file was created at this path: what was there before, if anything, is unchanged
  NotCreated : List ℕ → PathCall F
  -- the directory of this path was synced, while the file in it was in this state
  SyncedFolder : List ℕ → F → Bool → PathCall F
  -- the file at this path was removed, if the system could
  Removed : List ℕ → PathCall F

-- these calls were made, in this order and no others
abbrev pub AreFileCalls : {F : Type 0} → (F → FileCall → F → Type 0) → List FileCall → F → F → Type 0
AreFileCalls made [] old new = old ≡ new
AreFileCalls {F} made (call ∷ calls) old new = (next : F) × made old call next × AreFileCalls made calls next new

-- a file is whole: it has this length, and a name by which it is found again
abbrev pub IsWhole : ℕ → Option FileFacts → Type 0
IsWhole size (Some facts) = (facts.length ≡ size) × (0 < facts.names)
IsWhole size None = ⊥

-- the file was looked at, and the Bool says whether it is whole
abbrev pub LooksWhole : {F : Type 0} → (F → FileCall → F → Type 0) → ℕ → F → Bool → F → Type 0
LooksWhole made size old whole new = (seen : Option FileFacts) × made old (FileCall.Looked seen) new × (IsTrue whole ↔ IsWhole size seen)

-- the last call on the file was a look at it, which saw it whole
abbrev pub SeenWhole : {F : Type 0} → (F → FileCall → F → Type 0) → ℕ → F → Type 0
SeenWhole {F} made size new = (old : F) × (seen : Option FileFacts) × made old (FileCall.Looked seen) new × IsWhole size seen

-- no other opening of the file has it locked, or the file system has no locks
abbrev pub IsFree : LockAnswer → Type 0
IsFree Locked = ⊤
IsFree InUse = ⊥
IsFree NoLocks = ⊤
IsFree Failed = ⊥

-- a lock was tried, and no other opening of the file has it locked
abbrev pub IsLocked : {F : Type 0} → (F → FileCall → F → Type 0) → F → F → Type 0
IsLocked made old new = (answer : LockAnswer) × made old (FileCall.TriedLock answer) new × IsFree answer

-- a lock was tried, and another opening of the file has it locked, or the call failed
abbrev pub IsLockRefused : {F : Type 0} → (F → FileCall → F → Type 0) → F → Type 0
IsLockRefused {F} made old = (answer : LockAnswer) × (new : F) × made old (FileCall.TriedLock answer) new × (IsFree answer → ⊥)

-- a file was looked at and is a regular file, and then it was locked
abbrev pub IsTakenUp : {F : Type 0} → (F → FileCall → F → Type 0) → F → F → Type 0
IsTakenUp {F} made old new = (facts : FileFacts) × (seen : F) × made old (FileCall.Looked (Some facts)) seen × (facts.is_file ≡ true) × IsLocked made seen new

-- the bytes of a file of this length were read once, all of them
abbrev pub IsLoaded : {F : Type 0} → (F → FileCall → F → Type 0) → ℕ → F → F → Type 0
IsLoaded made size old new = (bytes : List ℕ) × (length bytes ≡ size) × made old (FileCall.ReadAt 0 bytes true) new

-- An existing file was opened at this path, and then checked and locked.
abbrev pub IsOpened : {S F : Type 0} → (S → PathCall F → S → Type 0) → (F → FileCall → F → Type 0) → List ℕ → S → F → S → Type 0
IsOpened {S} {F} made_path made path old file new = (first : F) × made_path old (PathCall.Opened path first) new × IsTakenUp made first file

-- successful writes put 00 into each byte from one offset to another, in order
abbrev pub AreZeros : ℕ → ℕ → List FileCall → Type 0
AreZeros at end [] = at ≡ end
AreZeros at end (FileCall.WriteAt place bytes true ∷ calls) = (place ≡ at) × (bytes ≡ replicate (length bytes) 0) × AreZeros (at + length bytes) end calls
AreZeros at end (call ∷ calls) = ⊥

-- 00 was written into each byte of a file of this length, and then the file was synced
abbrev pub IsFilled : {F : Type 0} → (F → FileCall → F → Type 0) → ℕ → F → F → Type 0
IsFilled {F} made size old new = (calls : List FileCall) × (written : F) × AreFileCalls made calls old written × AreZeros 0 size calls × made written (FileCall.SyncAll true) new

-- A new file was created at this path and locked, 00 was written into each byte of it, it was synced, and then the
-- directory of the path was synced.
abbrev pub IsMade : {S F : Type 0} → (S → PathCall F → S → Type 0) → (F → FileCall → F → Type 0) → List ℕ → ℕ → S → F → S → Type 0
IsMade {S} {F} made_path made path size old file new = (created : S) × (first locked : F)
    × made_path old (PathCall.Created path first) created × IsLocked made first locked × IsFilled made size locked file
    × made_path created (PathCall.SyncedFolder path file true) new

-- the directory of this path was synced once, with success or not, or no call was made
abbrev pub MaySyncFolder : {S F : Type 0} → (S → PathCall F → S → Type 0) → List ℕ → S → S → Type 0
MaySyncFolder {S} {F} made_path path old new = (old ≡ new) ⊎ ((file : F) × (worked : Bool) × made_path old (PathCall.SyncedFolder path file worked) new)

-- a file was created at this path, where there was none, and then removed
abbrev pub IsCreatedAndRemoved : {S F : Type 0} → (S → PathCall F → S → Type 0) → List ℕ → S → S → Type 0
IsCreatedAndRemoved {S} {F} made_path path old new = (first : F) × (created left : S)
    × made_path old (PathCall.Created path first) created × MaySyncFolder made_path path created left × made_path left (PathCall.Removed path) new

-- No new file is left at this path, and what was there before is unchanged: none was created, and nothing else was done
-- at a path, or one was created, where there was none, and removed.
abbrev pub LeavesNoFile : {S F : Type 0} → (S → PathCall F → S → Type 0) → List ℕ → S → S → Type 0
LeavesNoFile made_path path old new = made_path old (PathCall.NotCreated path) new ⊎ IsCreatedAndRemoved made_path path old new

-- A call leaves what is read, and which of it a power loss may change, as they were.
pub record LeavesFile (old new : DiskState) (forgotten forgotten' : ℕ → Bool) : Type 0 where
  pub state : new ≡ old
  pub none_more : NoneMore forgotten forgotten'

-- The effect of a read: the file has what a successful one returned. A failed one changes nothing.
pub record Reads (at : ℕ) (bytes : List ℕ) (worked : Bool) (old new : DiskState) (forgotten forgotten' : ℕ → Bool) : Type 0 where
  pub returned : worked ≡ true → Holds at bytes old.bytes new.bytes
  pub failed : worked ≡ false → new ≡ old
  pub flags : new.unsynced ≡ old.unsynced
  pub none_more : NoneMore forgotten forgotten'

-- The effect of a write, whether it succeeds or not. After a failed one the bytes given count as forgotten, so that no
-- sync makes them durable until they are written again. A write of what the file has there already, to bytes that a
-- power loss may change already, changes neither.
pub record Writes (at : ℕ) (bytes : List ℕ) (worked : Bool) (old new : DiskState) (forgotten forgotten' : ℕ → Bool) : Type 0 where
  pub written : Holds at bytes old.bytes new.bytes
  pub flagged : IsFlagged at (length bytes) new
  pub state : Touches at (length bytes) old new
  pub again : bytes ≡ Range at (length bytes) old.bytes → IsFlagged at (length bytes) old → new ≡ old
  pub none_more : worked ≡ true → NoneMore forgotten forgotten'
  pub known : worked ≡ true → IsKnown at (length bytes) forgotten'

-- The effect of a sync: a successful one makes the bytes durable that are not forgotten; a failed one may forget bytes,
-- and changes nothing else.
pub record Syncs (worked : Bool) (old new : DiskState) (forgotten forgotten' : ℕ → Bool) : Type 0 where
  pub seen : new.bytes ≡ old.bytes
  pub settles : worked ≡ true → Settles old new forgotten
  pub none_more : worked ≡ true → NoneMore forgotten forgotten'
  pub failed : worked ≡ false → new ≡ old

-- The effect of a call. The bytes of the state are those that were last read or given to a write.
abbrev pub Keeps : FileCall → DiskState → DiskState → (ℕ → Bool) → (ℕ → Bool) → Type 0
Keeps (FileCall.ReadAt at bytes worked) old new forgotten forgotten' = Reads at bytes worked old new forgotten forgotten'
Keeps (FileCall.WriteAt at bytes worked) old new forgotten forgotten' = Writes at bytes worked old new forgotten forgotten'
Keeps (FileCall.SyncData worked) old new forgotten forgotten' = Syncs worked old new forgotten forgotten'
Keeps (FileCall.SyncAll worked) old new forgotten forgotten' = Syncs worked old new forgotten forgotten'
Keeps (FileCall.Looked seen) old new forgotten forgotten' = LeavesFile old new forgotten forgotten'
Keeps (FileCall.TriedLock answer) old new forgotten forgotten' = LeavesFile old new forgotten forgotten'

-- the call succeeded
abbrev pub Works : ℕ → FileCall → Type 0
Works size (FileCall.ReadAt at bytes worked) = worked ≡ true
Works size (FileCall.WriteAt at bytes worked) = worked ≡ true
Works size (FileCall.SyncData worked) = worked ≡ true
Works size (FileCall.SyncAll worked) = worked ≡ true
Works size (FileCall.Looked seen) = IsWhole size seen
Works size (FileCall.TriedLock answer) = ⊤
