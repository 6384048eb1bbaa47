-- What a client knows of the disk whose `*OPC?` was answered by `1`. Source: IEEE 488.2, 12.5.3 (the response to `*OPC?` is
-- sent once all operations before it are complete).
use Rattle.std.specs.Prelude.{◌≡◌, ℕ, ◌+◌, ◌≤◌, true, None, if◌then◌else◌, List, [], ◌∷◌, ◌++◌}
use Rattle.psu_disk.specs.declared.disk.Disk.{Ghosts}
use Rattle.psu_items.specs.Image.{Represents}
use Rattle.psu_nv.specs.Contents.{items_of}
use Rattle.psu_tree.specs.declared.command.Request.{Request}
use Rattle.psu_exec.specs.Calls.{Entry}
use Rattle.psu_exec.specs.Device.{Answer, State}
use Rattle.psu_power_loss.specs.Headline.{IsPrefix}
use Rattle.psu_power_loss.specs.World.{World, IsStart, after, is_executed}
use Rattle.psu_exec.specs.Opc.{asks_opc}
use Rattle.psu_turn.specs.History.{HistoryLeads, StartsWith, calls_by, numbered}
use Rattle.psu_turn.specs.Seats.{Sight}
use Rattle.psu_turn.specs.declared.numbered.Numbered.{Numbered}
use Rattle.psu_bench.specs.Calls.{AllowsOn}
use Rattle.psu_bench_power_loss.specs.Lives.{Lives, calls_in}
use Rattle.psu_bench_power_loss.specs.Threads.{HaveDisks, IsPossibleAfter, ThreadStep, shown}

-- how many units calls execute
abbrev pub executes : Entry → ℕ
executes (Entry.Executed session request reply) = if is_executed reply then 1 else 0
executes _ = 0

abbrev pub executed : List (Numbered Entry) → ℕ
executed [] = 0
executed (call ∷ more) = executes call.entry + executed more

-- A call that this seat made: before it the history has exactly these calls of the seat.
pub record IsMadeAfter (seat : ℕ) (mine : List Entry) (entry : Entry) (history : List (Numbered Entry)) : Type 0 where
  pub before : List (Numbered Entry)
  pub later : List (Numbered Entry)
  pub is : history ≡ before ++ numbered seat entry ∷ later
  pub own : calls_by seat before ≡ mine

-- The image represents the contents after the first units that were executed. Among these are all that were executed
-- before this call of the seat, and so all that the seat had executed before it.
pub record KeepsBefore (now : World) (seat : ℕ) (mine : List Entry) (entry : Entry) (history : List (Numbered Entry)) (image : List ℕ) : Type 0 where
  pub call : IsMadeAfter seat mine entry history
  pub k : ℕ
  pub prefix : IsPrefix now k
  pub all : executed call.before ≤ k
  pub represents : Represents image now.limit (items_of (after now k))

-- A seat's `*OPC?` was answered. Then each image that a power loss may leave after any steps of threads from then on, also
-- midway through a job, represents contents with all that the seat had executed before it.
abbrev pub EachOpcIsKept : (D A : Type 0) → Ghosts D → Type 0
EachOpcIsKept D A G = (w : World) (first last : D) (steps : List (ThreadStep D A G)) (state : State) (image : List ℕ) (seat : Sight State Entry) (mine later : List Entry) (session : ℕ) (request : Request) (text : List ℕ)
    → IsStart w → w.disk ≡ Ghosts.state G first → HaveDisks D A G None first steps last → HistoryLeads (AllowsOn (Ghosts.honest G)) w.state (calls_in (shown w.disk steps)) state → IsPossibleAfter steps last image
    → StartsWith (calls_in (shown w.disk steps)) seat.seen → calls_by seat.number seat.seen ≡ mine ++ Entry.Executed session request (Answer text) ∷ later → asks_opc request.reading ≡ true
    → (now : World) × Lives w (shown w.disk steps) now × KeepsBefore now seat.number mine (Entry.Executed session request (Answer text)) (calls_in (shown w.disk steps)) image
