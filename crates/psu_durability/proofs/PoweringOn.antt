-- A served device powers on with the contents after a prefix of the units that its threads executed.
use Rattle.std.proofs.Common.{List, sym, ap₂, subst}
use Rattle.std.specs.declared.alloc.Global.{Global}
use Rattle.psu_disk.specs.Disk.{DiskState}
use Rattle.psu_disk.specs.Ranges.{reads_left}
use Rattle.psu_disk.specs.declared.disk.Disk.{Ghosts}
use Rattle.psu_items.proofs.Standing.{represents_one}
use Rattle.psu_nv.proofs.Determining.{same_contents}
use Rattle.psu_nv.specs.Contents.{items_of}
use Rattle.psu_exec.specs.Calls.{Entry}
use Rattle.psu_exec.specs.Device.{State, power_on}
use Rattle.psu_power_loss.specs.World.{after}
use Rattle.psu_turn.specs.History.{HistoryLeads}
use Rattle.psu_turn.specs.Seats.{Sight, Begins}
use Rattle.psu_turn.specs.declared.numbered.Numbered.{Numbered}
use Rattle.psu_bench.specs.Calls.{AllowsOn}
use Rattle.psu_bench.specs.PowerOn.{BeginsWith}
use Rattle.psu_bench_power_loss.specs.Threads.{DisksLeavePrefix, RoundsHaveSteps}
use Rattle.psu_durability.specs.Served.{PowersOnAfterRounds, PowersOnAgain}

module _ {D : Type 0} (G : Ghosts D) (leaves : DisksLeavePrefix D Global G) where
  pub powers_on_again : (opened : DiskState) (sight : Sight State Entry) → BeginsWith opened.bytes sight → PowersOnAgain G opened sight
  powers_on_again opened sight begins w first last steps state start is have leads left =
      let image = opened.bytes in
      let (now, k, lives, prefix, kept, stands) = leaves w first last steps state image start is have leads (left image (reads_left opened)) in
      let same = represents_one begins.limit now.limit (items_of begins.contents) (items_of (after now k)) image begins.found stands in
      let contents = same_contents begins.contents (after now k) begins.sound kept.sound same.1 in
      (now, k, lives, prefix, subst (λ (s : State). Begins sight.turn s sight) (ap₂ power_on same.0 contents) begins.begins)

  pub powers_on_after_rounds : RoundsHaveSteps D Global G → (opened : DiskState) (sight : Sight State Entry) → BeginsWith opened.bytes sight → PowersOnAfterRounds G opened sight
  powers_on_after_rounds have_steps opened sight begins w first history state start is are leads =
      let made = have_steps w.disk first history are in (
        made,
        λ left. powers_on_again opened sight begins w first made.last made.steps state start is made.have
            (subst (λ (calls : List (Numbered Entry)). HistoryLeads (AllowsOn (Ghosts.honest G)) w.state calls state) (sym made.calls) leads) left,
      )
