-- What a served device powers on with.
use Rattle.std.specs.Prelude.{◌≡◌, ℕ, List, None}
use Rattle.std.specs.declared.alloc.Global.{Global}
use Rattle.psu_disk.specs.Disk.{DiskState}
use Rattle.psu_disk.specs.declared.disk.Disk.{Ghosts}
use Rattle.psu_exec.specs.Calls.{Entry}
use Rattle.psu_exec.specs.Device.{State, power_on}
use Rattle.psu_power_loss.specs.Headline.{IsPrefix}
use Rattle.psu_power_loss.specs.World.{World, IsStart, after}
use Rattle.psu_turn.specs.History.{HistoryLeads}
use Rattle.psu_turn.specs.Seats.{Sight, Begins}
use Rattle.psu_turn.specs.declared.numbered.Numbered.{Numbered}
use Rattle.psu_bench.specs.Calls.{AllowsOn}
use Rattle.psu_bench_power_loss.specs.Lives.{Lives, calls_in}
use Rattle.psu_bench_power_loss.specs.Threads.{AreOfRounds, HasSteps, HaveDisks, IsPossibleAfter, ThreadStep, shown}
use Rattle.psu_durability.specs.Premise.{KeepsModel}

-- Since a power-on in world w threads have made these steps. The device powers on with the contents after a prefix of the
-- units that they executed, which contains every unit before an answered `*OPC?`.
abbrev pub BeginsWithPrefix : {D : Type 0} {G : Ghosts D} → World → List (ThreadStep D Global G) → Sight State Entry → Type 0
BeginsWithPrefix w steps sight = (now : World) × (k : ℕ) × Lives w (shown w.disk steps) now × IsPrefix now k × Begins sight.turn (power_on now.limit (after now k)) sight

-- So it is after any steps of threads whose calls are a legal history, where the file kept its model.
abbrev pub PowersOnAgain : {D : Type 0} (G : Ghosts D) → DiskState → Sight State Entry → Type 0
PowersOnAgain {D} G opened sight = (w : World) (first last : D) (steps : List (ThreadStep D Global G)) (state : State)
    → IsStart w → w.disk ≡ Ghosts.state G first → HaveDisks D Global G None first steps last → HistoryLeads (AllowsOn (Ghosts.honest G)) w.state (calls_in (shown w.disk steps)) state
    → KeepsModel (IsPossibleAfter steps last) opened → BeginsWithPrefix w steps sight

-- And so it is after any legal history whose takes and accepted ends are those of rounds: it has such steps.
abbrev pub PowersOnAfterRounds : {D : Type 0} (G : Ghosts D) → DiskState → Sight State Entry → Type 0
PowersOnAfterRounds {D} G opened sight = (w : World) (first : D) (history : List (Numbered Entry)) (state : State)
    → IsStart w → w.disk ≡ Ghosts.state G first → AreOfRounds D Global G history → HistoryLeads (AllowsOn (Ghosts.honest G)) w.state history state
    → (made : HasSteps D Global G w.disk first history) × (KeepsModel (IsPossibleAfter made.steps made.last) opened → BeginsWithPrefix w made.steps sight)
