-- The power-loss theorem: what a restart finds after any events.
use Rattle.std.specs.Prelude.{◌≡◌, ◌⊎◌, ℕ, ◌-◌, ◌≤◌, List, [], ◌∷◌, ◌++◌, length, take, slice_get, Some, is_some, true}
use Rattle.psu_disk.specs.Disk.{DiskState, IsCrashImage}
use Rattle.psu_map.specs.Map.{Item}
use Rattle.psu_items.specs.Image.{Represents, EachRepresents, EachIsEither}
use Rattle.psu_nv.specs.Commands.{Command as Change, applied}
use Rattle.psu_nv.specs.Contents.{Contents, items_of, fits}
use Rattle.psu_status.specs.Status.{first_request, prescribed}
use Rattle.psu_instrument.specs.declared.act.Completion.{Completion}
use Rattle.psu_exec.specs.declared.waits.Wait.TheVariants.{Until}
use Rattle.psu_exec.specs.Device.{State, count_held, target, is_open, wait_of, power_on}
use Rattle.psu_exec.specs.Calls.{Entry, Allows}
use Rattle.psu_exec.specs.Consistent.{IsConsistent, MayBeKept}
use Rattle.psu_exec.specs.Starts.{AreBad}
use Rattle.psu_power_loss.specs.World.{World, Running, Event, Loss, Restart, PastUnit, Waits, changes, before, after, is_answered, answered, without_power, KeepsMaps, Moves, Happens, Run, IsStart}
use Rattle.psu_power_loss.specs.Lives.{cleared, kept_again, stored_life, broken_life, restarts}

-- a number of units that is at most all of them and at least those before an answered `*OPC?`
pub record IsPrefix (w : World) (k : ℕ) : Type 0 where
  pub from : answered w.history ≤ k
  pub to : k ≤ length w.history

-- after any events, each possible crash image represents the contents after such a prefix, which an image can store
abbrev pub PrefixLeft : Type 0
PrefixLeft = (first now : World) (events : List Event) (image : List ℕ)
    → IsStart first → Run first events now → IsCrashImage now.disk image
    → (k : ℕ) × IsPrefix now k × MayBeKept now.limit (after now k) × Represents image now.limit (items_of (after now k))

-- so after any events, no possible crash image has bad items
abbrev pub NoneIsBad : Type 0
NoneIsBad = (first now : World) (events : List Event) (image : List ℕ) (limit : ℕ) (items : List Item)
    → IsStart first → Run first events now → IsCrashImage now.disk image → Represents image limit items → AreBad limit items → ⊥

-- after any events, a restart powers on with the contents after such a prefix, and with the first service request
-- prescribed for them
abbrev pub PowersOnWithPrefix : Type 0
PowersOnWithPrefix = (first now new : World) (events : List Event) (limit : ℕ) (contents : Contents)
    → IsStart first → Run first events now → Happens now (Restart limit contents) new
    → (k : ℕ) × IsPrefix now k × (new.state ≡ power_on now.limit (after now k)) × (new.state.flush.contents ≡ after now k)
    × (first_request new.state.volatile.instrument.status ≡ prescribed (after now k).enables)

-- What the counts mean while power is on: the changes of the history are the flushed ones and as many more as are
-- counted; the contents, the map before and the target are those after such prefixes; each change before an answered
-- `*OPC?` is flushed.
pub record IsAccounted (w : World) : Type 0 where
  pub flushed : List Change
  pub rest : List Change
  pub made : changes w.history ≡ flushed ++ rest
  pub count : w.state.flush.unflushed ≡ length rest
  pub contents : w.state.flush.contents ≡ applied w.start (flushed ++ rest)
  pub first_map : w.state.flush.before ≡ items_of (applied w.start flushed)
  pub held : count_held w.state.flush.held ≤ length rest
  pub aim : target w.state.flush ≡ items_of (applied w.start (flushed ++ take (count_held w.state.flush.held) rest))
  pub answered : (i : ℕ) (u : PastUnit) → slice_get w.history i ≡ Some u → is_answered u ≡ true → before w.history i ≤ length flushed

abbrev pub EachIsAccounted : Type 0
EachIsAccounted = (first now : World) (events : List Event) → IsStart first → Run first events now → now.mode ≡ Running → IsAccounted now

-- Units that wait while power is on: the session is open and parked, and a wait that is not cut off counts those of
-- the changes before the unit that are unflushed.
pub record IsParkedFor (units : List PastUnit) (s : State) : Type 0 where
  pub lengths : length s.flush.waits ≡ length s.volatile.open_now
  pub within : s.flush.unflushed ≤ length (changes units)
  pub open_is : (i : ℕ) (u : PastUnit) → slice_get units i ≡ Some u → u.fate ≡ Waits → is_open s u.session ≡ true
  pub parked : (i : ℕ) (u : PastUnit) → slice_get units i ≡ Some u → u.fate ≡ Waits → is_some (wait_of s.flush u.session) ≡ true
  pub exact : (i : ℕ) (u : PastUnit) → slice_get units i ≡ Some u → u.fate ≡ Waits → (c : Completion) (n : ℕ) → wait_of s.flush u.session ≡ Some (Until c n)
      → n ≡ before units i - (length (changes units) - s.flush.unflushed)

abbrev pub EachWaitIsExact : Type 0
EachWaitIsExact = (first now : World) (events : List Event) → IsStart first → Run first events now → now.mode ≡ Running → IsParkedFor now.history now.state

-- each call preserves the invariant of the flush part
abbrev pub EachStaysConsistent : Type 0
EachStaysConsistent = (s new : State) (entry : Entry) → Allows s entry new → IsConsistent s.flush → IsConsistent new.flush

-- the greatest number of units before an answered `*OPC?`; 0 if there is none
pub record IsGreatestAnswered (units : List PastUnit) (n : ℕ) : Type 0 where
  pub greatest : (i : ℕ) (u : PastUnit) → slice_get units i ≡ Some u → is_answered u ≡ true → i ≤ n
  pub own : (n ≡ 0) ⊎ ((u : PastUnit) × (slice_get units n ≡ Some u) × (is_answered u ≡ true))

abbrev pub AnsweredIsGreatest : Type 0
AnsweredIsGreatest = (units : List PastUnit) → IsGreatestAnswered units (answered units)

-- The rules can be met: the first of the two executions happens, with a loss of power in its last commit that leaves
-- the map before it; a restart finds the change that was confirmed by 1, and not the one after it.
abbrev pub SomeLife : Type 0
SomeLife = (first : World) (disk torn : DiskState) (image : List ℕ)
    → IsStart first → fits first.limit (kept_again first) ≡ true → EachRepresents disk first.limit (items_of (cleared first)) → Moves disk torn → EachIsEither torn first.limit (items_of (cleared first)) (items_of (kept_again first)) → IsCrashImage torn image
    → Represents image first.limit (items_of (cleared first))
    → (last : World) × (now : World) × Run first (stored_life first disk torn) last × (answered last.history ≡ 1) × (length last.history ≡ 3)
    × Run last (Loss image ∷ Restart first.limit (cleared first) ∷ []) now

-- The second execution happens too, with a store that breaks and is reopened; a restart finds the change.
abbrev pub BrokenLife : Type 0
BrokenLife = (first : World) (torn disk : DiskState)
    → IsStart first → Moves first.disk torn → EachIsEither torn first.limit (items_of first.start) (items_of (cleared first)) → Moves torn disk → EachRepresents disk first.limit (items_of (cleared first))
    → (last : World) × (now : World) × Run first (broken_life first torn disk) last × (answered last.history ≡ 3)
    × Run last (Loss disk.bytes ∷ Restart first.limit (cleared first) ∷ []) now

-- The process may also end in the last commit of the first execution, and power may be lost in the restart that
-- follows, also in a disk call; the next restart finds the change.
abbrev pub BrokenOffRestart : Type 0
BrokenOffRestart = (first : World) (disk torn swept shut : DiskState) (image : List ℕ)
    → IsStart first → fits first.limit (kept_again first) ≡ true → EachRepresents disk first.limit (items_of (cleared first)) → Moves disk torn → EachIsEither torn first.limit (items_of (cleared first)) (items_of (kept_again first))
    → Moves torn swept → KeepsMaps torn swept → IsCrashImage swept image → Represents image first.limit (items_of (cleared first)) → Moves (without_power image) shut → KeepsMaps (without_power image) shut
    → (last : World) × (now : World) × Run first (stored_life first disk torn) last × (answered last.history ≡ 1) × Run last (restarts first swept image shut) now
