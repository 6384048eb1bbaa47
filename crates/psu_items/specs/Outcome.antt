-- The results of a store's calls, case by case.
use Rattle.std.specs.Prelude.{◌≡◌, ◌+◌, ◌≤◌, ◌^◌, List, ⊤, Result, Ok, Err}
use Rattle.psu_disk.specs.Disk.{HasFailed}
use Rattle.psu_disk.specs.declared.disk.Disk.{Ghosts}
use Rattle.psu_map.specs.Batch.{Edit, changed}
use Rattle.psu_pages.specs.declared.faults.FormatFault.{FormatFault}
use Rattle.psu_pages.specs.declared.faults.ImageError.{ImageError}
use Rattle.psu_items.specs.Standing.{MapOn}
use Rattle.psu_items.specs.declared.broken.Broken.{Broken}
use Rattle.psu_items.specs.declared.broken.BrokenCause.TheVariants as broken_cause
use Rattle.psu_items.specs.declared.commit.Commit.{Commit}
use Rattle.psu_items.specs.declared.commit.Commit.TheVariants as commit
use Rattle.psu_items.specs.declared.commit.UnstartedCause.{UnstartedCause}
use Rattle.psu_items.specs.declared.commit.UnstartedCause.TheVariants.{Worn}

-- the disk of a formatted store, or the one returned with the fault
abbrev pub formatted_disk : {D : Type 0} → Result (MapOn D) (FormatFault D) → D
formatted_disk (Ok store) = store.disk
formatted_disk (Err e) = e.disk

-- the disk of an opened store, or the one returned with the refusal
abbrev pub opened_disk : {D : Type 0} → Result (MapOn D) (ImageError D) → D
opened_disk (Ok store) = store.disk
opened_disk (Err e) = e.disk

-- the disk that a commit returns, in each case
abbrev pub disk_of : {D A : Type 0} {G : Ghosts D} → Commit D A G → D
disk_of (commit.Stored store) = store.disk
disk_of (commit.Unstarted store batch cause) = store.disk
disk_of (commit.Broken broken) = broken.disk

abbrev pub IfStored : {D A : Type 0} {G : Ghosts D} → Commit D A G → (MapOn D → Type 0) → Type 0
IfStored (commit.Stored store) P = P store
IfStored (commit.Unstarted store batch cause) P = ⊤
IfStored (commit.Broken broken) P = ⊤

abbrev pub IfUnstarted : {D A : Type 0} {G : Ghosts D} → Commit D A G → (MapOn D → List Edit → UnstartedCause → Type 0) → Type 0
IfUnstarted (commit.Stored store) P = ⊤
IfUnstarted (commit.Unstarted store batch cause) P = P store batch cause
IfUnstarted (commit.Broken broken) P = ⊤

abbrev pub IfBroken : {D A : Type 0} {G : Ghosts D} → Commit D A G → (Broken D A G → Type 0) → Type 0
IfBroken (commit.Stored store) P = ⊤
IfBroken (commit.Unstarted store batch cause) P = ⊤
IfBroken (commit.Broken broken) P = P broken

-- not started, since the root's number is the last
abbrev pub IsWorn : {D A : Type 0} {G : Ghosts D} → Commit D A G → Type 0
IsWorn (commit.Stored store) = ⊥
IsWorn (commit.Unstarted store batch cause) = cause ≡ Worn
IsWorn (commit.Broken broken) = ⊥

-- the store holds the map after the batch, as version 2 and under the next number
pub record HasStored {D : Type 0} (old : MapOn D) (batch : List Edit) (new : MapOn D) : Type 0 where
  pub items : new.items ≡ changed old.items batch
  pub limit : new.limit ≡ old.limit
  pub version : new.version ≡ 2
  pub number : new.number ≡ old.number + 1

-- the store and the batch are unchanged; the cause is `Worn` only where the store's number is the last
pub record IsUnchanged {D : Type 0} (old : MapOn D) (batch : List Edit) (new : MapOn D) (back : List Edit) (cause : UnstartedCause) : Type 0 where
  pub store : new ≡ old
  pub batch_is : back ≡ batch
  pub worn : cause ≡ Worn → 2 ^ 64 ≤ old.number + 1

-- the map before, the batch and the limit are kept, and a call of the disk failed
pub record HasBroken {D A : Type 0} {G : Ghosts D} (old : MapOn D) (batch : List Edit) (broken : Broken D A G) : Type 0 where
  pub before : broken.before ≡ old.items
  pub batch_is : broken.batch ≡ batch
  pub limit : broken.limit ≡ old.limit
  pub cause : broken.cause ≡ broken_cause.Device
  pub failures : HasFailed (Ghosts.failures G old.disk) (Ghosts.failures G broken.disk)

-- the map before, the batch and the limit are unchanged
pub record IsStillBroken {D A : Type 0} {G : Ghosts D} (old new : Broken D A G) : Type 0 where
  pub before : new.before ≡ old.before
  pub batch : new.batch ≡ old.batch
  pub limit : new.limit ≡ old.limit

-- the disk of a store opened again, or of the broken one
abbrev pub reopened_disk : {D A : Type 0} {G : Ghosts D} → Result (MapOn D) (Broken D A G) → D
reopened_disk (Ok store) = store.disk
reopened_disk (Err broken) = broken.disk
