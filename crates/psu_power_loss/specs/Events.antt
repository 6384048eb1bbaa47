-- The calls of the program are events of the power-loss theorem.
use Rattle.std.specs.Prelude.{◌≡◌, ℕ, ◌≤◌, List, [], true}
use Rattle.psu_disk.specs.Disk.{DiskState, LeavesOnly}
use Rattle.psu_map.specs.Map.{Item}
use Rattle.psu_items.specs.Image.{EachRepresents, IsEither, EachIsEither}
use Rattle.psu_items.specs.Finding.{IsOldOrSame}
use Rattle.psu_nv.specs.Contents.{Contents, IsContents, items_of, fits}
use Rattle.psu_exec.specs.Device.{State, target, power_on}
use Rattle.psu_exec.specs.Calls.{Entry, Allows}
use Rattle.psu_power_loss.specs.World.{World, Running, Restarting, Call, DiskCall, Restart, Moves, DiskAfter, IsDown, KeepsMaps, Happens, begun_with, recorded}

-- A call with an allowed reply is an event, with a disk that it may leave: the same, or that of the end that was
-- given back.
abbrev pub CallsHappen : Type 0
CallsHappen = (w : World) (entry : Entry) (new : State) (disk : DiskState) → w.mode ≡ Running → Allows w.state entry new → DiskAfter w entry disk
    → Happens w (Call entry disk) (record w { state = new; history = recorded w.state entry w.history; disk = disk })

-- A disk call while a job is out is an event if each possible crash image after it represents the map before or the
-- target.
abbrev pub DiskCallsHappen : Type 0
DiskCallsHappen = (w : World) (disk : DiskState) → w.mode ≡ Running → w.state.flush.out ≡ true → Moves w.disk disk → EachIsEither disk w.state.flush.limit w.state.flush.before (target w.state.flush)
    → Happens w (DiskCall disk) (record w { disk = disk })

-- A disk call of a restart is an event if each possible crash image after it represents what some possible crash
-- image of the disk that the restart began with represents.
abbrev pub RestartCallsHappen : Type 0
RestartCallsHappen = (w : World) (disk : DiskState) → IsDown w.mode → Moves w.disk disk → KeepsMaps (begun_with w.mode w.disk) disk
    → Happens w (DiskCall disk) (record w { disk = disk; mode = Restarting (begun_with w.mode w.disk) })

-- A power-on with contents that each possible crash image of the disk represents is an event.
abbrev pub RestartsHappen : Type 0
RestartsHappen = (w : World) (limit : ℕ) (contents : Contents) → IsDown w.mode → IsContents contents → fits limit contents ≡ true → EachRepresents w.disk limit (items_of contents)
    → Happens w (Restart limit contents) (record { state = power_on limit contents; history = []; disk = w.disk; mode = Running; limit = limit; start = contents })

-- If each crash image since a job began represents one of two maps, so does each possible crash image of the disk at
-- a moment of the job.
abbrev pub MomentsAreEither : {D : Type 0} → (D → ℕ) → (D → ℕ → List ℕ → Type 0) → (D → DiskState) → Type 0
MomentsAreEither {D} moment left_since state = (first mid last : D) (limit : ℕ) (before goal : List Item) → LeavesOnly moment left_since first last (IsEither limit before goal) → moment first ≤ moment mid
    → ((x : List ℕ) → left_since mid (moment first) x → left_since last (moment first) x) → EachIsEither (state mid) limit before goal

-- If each crash image since an opening began is one from before, or has the root that was current when it was read,
-- each possible crash image at a moment of the opening represents what one from before represented.
abbrev pub MomentsKeepMaps : {D : Type 0} → (D → ℕ) → (D → ℕ → List ℕ → Type 0) → (D → DiskState) → Type 0
MomentsKeepMaps {D} moment left_since state = (first mid last : D) → LeavesOnly moment left_since first last (IsOldOrSame (state first)) → moment first ≤ moment mid
    → ((x : List ℕ) → left_since mid (moment first) x → left_since last (moment first) x) → KeepsMaps (state first) (state mid)
