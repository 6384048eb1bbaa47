-- The device, its disk and the executed units, and all events that may happen to them.
use Rattle.std.specs.Prelude.{◌≡◌, ◌⊎◌, ℕ, suc, ◌==◌, ◌&&◌, Bool, true, false, if◌then◌else◌, Option, Some, None, List, [], ◌∷◌, ◌++◌, length, take, map, ⊤}
use Rattle.std.specs.List.{list_any}
use Rattle.psu_disk.specs.Disk.{DiskState, IsCrashImage, Touches, IsSynced}
use Rattle.psu_map.specs.Map.{Item}
use Rattle.psu_items.specs.Image.{Represents, EachRepresents, EachIsEither}
use Rattle.psu_nv.specs.Commands.{Command as Change, applied}
use Rattle.psu_nv.specs.Contents.{Contents, IsContents, items_of, fits}
use Rattle.psu_exec.specs.Device.{Reply, Answer, Parked, Held, Later, change_if}
use Rattle.psu_tree.specs.declared.command.Request.{Request}
use Rattle.psu_exec.specs.Device.{State, target, change_of, is_open, power_on}
use Rattle.psu_exec.specs.AcceptedEnd.{IsTrueOf, accepted_end}
use Rattle.psu_exec.specs.Opc.{asks_opc}
use Rattle.psu_exec.specs.Calls.{Entry, Executed, Settled, Took, GaveBack, Opened, Closed, Cleared, JobEnd, Allows, ends_wait}

-- ---- the executed units

-- how an executed unit ended, or that it is parked, or that its wait was dropped
pub data Fate : Type 0 where
  Gave : (reply : Reply) → Fate
  Waits : Fate
  Dropped : Fate

-- a unit that was executed, and the change that it made
pub record PastUnit : Type 0 where
  pub session : ℕ
  pub request : Request
  pub fate : Fate
  pub change : Option Change

-- the changes that units made, in order
abbrev pub with_change : Option Change → List Change → List Change
with_change None list = list
with_change (Some c) list = c ∷ list

abbrev pub changes : List PastUnit → List Change
changes [] = []
changes (u ∷ units) = with_change u.change (changes units)

-- how many changes the first i units made
abbrev pub before : List PastUnit → ℕ → ℕ
before units i = length (changes (take i units))

abbrev pub is_answer : Fate → Bool
is_answer (Gave (Answer text)) = true
is_answer _ = false

-- whether a unit is an answered `*OPC?`; its only response is 1
abbrev pub is_answered : PastUnit → Bool
is_answered u = asks_opc u.request.reading && is_answer u.fate

-- the greatest number of units before an answered `*OPC?`; 0 if there is none
abbrev pub answered : List PastUnit → ℕ
answered [] = 0
answered (u ∷ units) = if list_any is_answered units then suc (answered units) else 0

abbrev pub fate_of : Reply → Fate
fate_of Parked = Waits
fate_of reply = Gave reply

abbrev pub is_executed : Reply → Bool
is_executed Later = false
is_executed Held = false
is_executed _ = true

-- the unit as the history records it
abbrev pub unit_of : State → ℕ → Request → Reply → PastUnit
unit_of s session request reply = record { session = session; request = request; fate = fate_of reply; change = change_if reply (change_of s session request) }

abbrev pub ended_fate : Bool → Fate → Fate → Fate
ended_fate true new Waits = new
ended_fate _ new old = old

-- a unit after the wait of this session has ended with this fate
abbrev pub ended : ℕ → Fate → PastUnit → PastUnit
ended session fate u = record u { fate = ended_fate (u.session == session) fate u.fate }

abbrev pub recorded_settle : List PastUnit → ℕ → Reply → List PastUnit
recorded_settle units session reply = if ends_wait reply then map (ended session (Gave reply)) units else units

-- the history after the wait of a session is dropped; of one that is not open no unit waits
abbrev pub dropped : State → ℕ → List PastUnit → List PastUnit
dropped s session units = if is_open s session then map (ended session Dropped) units else units

-- the history after a call
abbrev pub recorded : State → Entry → List PastUnit → List PastUnit
recorded s (Executed session request reply) units = if is_executed reply then units ++ unit_of s session request reply ∷ [] else units
recorded s (Settled session reply) units = recorded_settle units session reply
recorded s (Took taken) units = units
recorded s (GaveBack finished over) units = units
recorded s (Opened session) units = units
recorded s (Closed session granted) units = dropped s session units
recorded s (Cleared session) units = dropped s session units
recorded s _ units = units

-- ---- the world

pub data Mode : Type 0 where
  Running : Mode
  -- power is lost, or the process has ended
  Stopped : Mode
  -- a restart began with this disk
  Restarting : (begun : DiskState) → Mode

pub record World : Type 0 where
  pub state : State
  pub history : List PastUnit  -- since power-on, the oldest first
  pub disk : DiskState
  pub mode : Mode
  pub limit : ℕ  -- of the image
  pub start : Contents  -- what the last restart found

pub data Event : Type 0 where
  -- a call, and the disk after it
  Call : (entry : Entry) → (disk : DiskState) → Event
  -- a disk call of the job or of the restart begins, succeeds or fails
  DiskCall : (disk : DiskState) → Event
  -- power is lost, which leaves this image
  Loss : (image : List ℕ) → Event
  -- the process ends, or is killed at any moment; the disk stays as it is, with what is unsynced
  Stop : Event
  -- a restart ends, having found this limit and these contents
  Restart : (limit : ℕ) → (contents : Contents) → Event

-- the contents after the first k units
abbrev pub after : World → ℕ → Contents
after w k = applied w.start (changes (take k w.history))

-- The effect of a disk call that begins, succeeds or fails. A write may change its range to any bytes, from its start
-- on; a read, or a sync that fails, changes nothing.
pub data Moves (old new : DiskState) : Type 0 where
  Writes : (at n : ℕ) → Touches at n old new → Moves old new
  Stays : new ≡ old → Moves old new
  Syncs : new.bytes ≡ old.bytes → IsSynced new → Moves old new

-- the disk after a power loss that leaves this image
abbrev pub without_power : List ℕ → DiskState
without_power image = record { bytes = image; unsynced = [] }

-- The disk after a call: that of the end that is accepted, of which it is true; else it stays.
abbrev pub DiskOfEnd : World → Option JobEnd → DiskState → Type 0
DiskOfEnd w (Some finished) disk = IsTrueOf (target w.state.flush) finished disk
DiskOfEnd w None disk = disk ≡ w.disk

abbrev pub DiskAfter : World → Entry → DiskState → Type 0
DiskAfter w entry disk = DiskOfEnd w (accepted_end entry) disk

-- what each disk call of a job keeps; for a restart see `KeepsInRestart`
pub record KeepsInJob (w : World) (disk : DiskState) : Type 0 where
  pub running : w.mode ≡ Running
  pub out : w.state.flush.out ≡ true
  pub either : EachIsEither disk w.state.flush.limit w.state.flush.before (target w.state.flush)

abbrev pub IsDown : Mode → Type 0
IsDown Running = ⊥
IsDown Stopped = ⊤
IsDown (Restarting begun) = ⊤

-- the disk that a restart begins with, or has begun with
abbrev pub begun_with : Mode → DiskState → DiskState
begun_with (Restarting begun) disk = begun
begun_with mode disk = disk

-- for each possible crash image of the new disk there is one of the old disk such that it represents each map that
-- the old one represents
abbrev pub KeepsMaps : DiskState → DiskState → Type 0
KeepsMaps old new = (image : List ℕ) → IsCrashImage new image → (before : List ℕ) × IsCrashImage old before × ((limit : ℕ) (map : List Item) → Represents before limit map → Represents image limit map)

pub record KeepsInRestart (w : World) (disk : DiskState) : Type 0 where
  pub down : IsDown w.mode
  pub same : KeepsMaps (begun_with w.mode w.disk) disk

-- What a restart finds on the disk. An opening begins with a sync, so each possible crash image represents it.
pub record Finds (w : World) (limit : ℕ) (contents : Contents) : Type 0 where
  pub down : IsDown w.mode
  pub sound : IsContents contents
  pub fitting : fits limit contents ≡ true
  pub stands : EachRepresents w.disk limit (items_of contents)

-- A call that may get its reply by this relation of the device's states, and the disk after it.
abbrev pub CallsBy : (State → Entry → State → Type 0) → World → Entry → DiskState → World → Type 0
CallsBy leads w entry disk new = (s : State) × (w.mode ≡ Running) × leads w.state entry s × DiskAfter w entry disk
    × (new ≡ record w { state = s; history = recorded w.state entry w.history; disk = disk })

-- In world w, the event may happen and lead to the world new.
abbrev pub Happens : World → Event → World → Type 0
Happens w (Call entry disk) new = CallsBy Allows w entry disk new
Happens w (DiskCall disk) new = Moves w.disk disk
    × ((KeepsInJob w disk × (new ≡ record w { disk = disk })) ⊎ (KeepsInRestart w disk × (new ≡ record w { disk = disk; mode = Restarting (begun_with w.mode w.disk) })))
Happens w (Loss image) new = IsCrashImage w.disk image × (new ≡ record w { disk = without_power image; mode = Stopped })
Happens w Stop new = new ≡ record w { mode = Stopped }
Happens w (Restart limit contents) new = Finds w limit contents
    × (new ≡ record { state = power_on limit contents; history = []; disk = w.disk; mode = Running; limit = limit; start = contents })

-- these events may happen, one after another
abbrev pub Run : World → List Event → World → Type 0
Run w [] new = new ≡ w
Run w (e ∷ events) new = (mid : World) × Happens w e mid × Run mid events new

-- a device that has just been powered on with contents that each possible crash image represents
pub record IsStart (w : World) : Type 0 where
  pub state : w.state ≡ power_on w.limit w.start
  pub history : w.history ≡ []
  pub mode : w.mode ≡ Running
  pub sound : IsContents w.start
  pub fitting : fits w.limit w.start ≡ true
  pub disk : EachRepresents w.disk w.limit (items_of w.start)
