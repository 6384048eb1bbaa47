-- The histories of the bench as events of the power-loss theorem.
use Rattle.std.specs.Prelude.{◌≡◌, ◌↔◌, ℕ, List, [], ◌∷◌}
use Rattle.psu_disk.specs.Disk.{DiskState, IsCrashImage}
use Rattle.psu_items.specs.Image.{Represents, EachRepresents, EachIsEither}
use Rattle.psu_nv.specs.Contents.{items_of}
use Rattle.psu_exec.specs.Consistent.{MayBeKept}
use Rattle.psu_exec.specs.Device.{State}
use Rattle.psu_exec.specs.Calls.{Entry, Allows}
use Rattle.psu_power_loss.specs.Headline.{IsPrefix}
use Rattle.psu_power_loss.specs.Lives.{cleared, broken_life}
use Rattle.psu_power_loss.specs.World.{World, Running, Event, Call, DiskCall, IsStart, Moves, Run, after, answered}
use Rattle.psu_turn.specs.History.{HistoryLeads, numbered}
use Rattle.psu_turn.specs.declared.numbered.Numbered.{Numbered}
use Rattle.psu_bench.specs.Calls.{AllowsOn, HasDisk}

-- What happens while threads run: a call, with the disk after it, or a disk call of the job that is out.
pub data Happening : Type 0 where
  Called : (call : Numbered Entry) → (disk : DiskState) → Happening
  Moved : (disk : DiskState) → Happening

-- the calls among them: a history
abbrev pub calls_in : List Happening → List (Numbered Entry)
calls_in [] = []
calls_in (Called call disk ∷ more) = call ∷ calls_in more
calls_in (Moved disk ∷ more) = calls_in more

-- as events of the power-loss theorem
abbrev pub events_in : List Happening → List Event
events_in [] = []
events_in (Called call disk ∷ more) = Call call.entry disk ∷ events_in more
events_in (Moved disk ∷ more) = DiskCall disk ∷ events_in more

-- These happen one after another, from world w to the world new: they are such events.
abbrev pub Lives : World → List Happening → World → Type 0
Lives w happenings new = Run w (events_in happenings) new

-- The calls of what happens are a legal history.
abbrev pub LivesAreEvents : Type 0
LivesAreEvents = (w new : World) (happenings : List Happening) → Lives w happenings new
    → Run w (events_in happenings) new × HistoryLeads Allows w.state (calls_in happenings) new.state

-- a legal history whose accepted ends are each true of some disk
abbrev pub LeadsOverDisks : State → List (Numbered Entry) → State → Type 0
LeadsOverDisks first [] last = first ≡ last
LeadsOverDisks first (call ∷ more) last = (next : State) × Allows first call.entry next × HasDisk first call.entry × LeadsOverDisks next more last

-- Exactly those histories happen.
abbrev pub HistoriesHappen : Type 0
HistoriesHappen = (w : World) (history : List (Numbered Entry)) (last : State) → w.mode ≡ Running
    → LeadsOverDisks w.state history last ↔ ((happenings : List Happening) × (new : World) × (calls_in happenings ≡ history) × Lives w happenings new × (new.state ≡ last))

-- So the history that a seat has seen happens, if the disks of the bench's kind are honest.
abbrev pub SeenHistoriesHappen : Type 0 → Type 0
SeenHistoriesHappen honest = (w : World) (history : List (Numbered Entry)) (last : State) → honest → w.mode ≡ Running → HistoryLeads (AllowsOn honest) w.state history last
    → (happenings : List Happening) × (new : World) × (calls_in happenings ≡ history) × Lives w happenings new × (new.state ≡ last)

-- the happenings of one thread that causes these events, up to a power loss, the process's end or a restart
abbrev pub by_one : List Event → List Happening
by_one (Call entry disk ∷ more) = Called (numbered 1 entry) disk ∷ by_one more
by_one (DiskCall disk ∷ more) = Moved disk ∷ by_one more
by_one _ = []

-- There are such histories: one with a job whose disk fails, a reopening of the store, and a response 1 for what the
-- store then holds.
abbrev pub SomeHistoryHappens : Type 0
SomeHistoryHappens = (first : World) (torn disk : DiskState)
    → IsStart first → Moves first.disk torn → EachIsEither torn first.limit (items_of first.start) (items_of (cleared first)) → Moves torn disk → EachRepresents disk first.limit (items_of (cleared first))
    → (last : World) × Lives first (by_one (broken_life first torn disk)) last × (answered last.history ≡ 3)

-- Whatever threads do, each possible crash image represents the contents after a prefix of the executed units that
-- includes every unit before an answered `*OPC?`; an image can store these contents.
abbrev pub ThreadsLeavePrefix : Type 0
ThreadsLeavePrefix = (first now : World) (happenings : List Happening) (image : List ℕ)
    → IsStart first → Lives first happenings now → IsCrashImage now.disk image
    → (k : ℕ) × IsPrefix now k × MayBeKept now.limit (after now k) × Represents image now.limit (items_of (after now k))
