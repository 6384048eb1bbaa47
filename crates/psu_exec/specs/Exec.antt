-- The device with its store on a disk, and what remains of it.
use Rattle.std.specs.Prelude.{◌≡◌, true, Some}
use Rattle.psu_disk.specs.declared.disk.Disk.{Ghosts}
use Rattle.psu_exec.specs.Device.{ExecOf}
use Rattle.psu_exec.specs.declared.idle_store.Condition.TheVariants.{Broken}
use Rattle.psu_exec.specs.declared.idle_store.Ended.{Ended}
use Rattle.psu_exec.specs.declared.idle_store.Ended.TheVariants as ended
use Rattle.psu_exec.specs.declared.idle_store.IdleStore.{IdleStore}
use Rattle.psu_exec.specs.declared.idle_store.IdleStore.TheVariants as idle_store

abbrev pub Exec : (D A : Type 0) → Ghosts D → Type 0
Exec D A G = ExecOf (IdleStore D A G)

-- the store, with the map and the limit that the state says, and broken only if the state says so; if a job is out, the
-- Exec unchanged
abbrev pub IsEnd : {D A : Type 0} {G : Ghosts D} → Exec D A G → Ended D A G → Type 0
IsEnd exec (ended.Whole store) = (exec.idle_store ≡ Some (idle_store.Whole store)) × (store.items ≡ exec.device.flush.before) × (store.limit ≡ exec.device.flush.limit)
IsEnd exec (ended.Failed broken) = (exec.idle_store ≡ Some (idle_store.Failed broken)) × (broken.before ≡ exec.device.flush.before) × (broken.limit ≡ exec.device.flush.limit) × (exec.device.flush.store ≡ Broken)
IsEnd exec (ended.Out back) = (back.device ≡ exec.device) × (back.idle_store ≡ exec.idle_store) × (exec.device.flush.out ≡ true)
