use Rattle.std.proofs.Common.{◌≡◌, ◌+◌, ℕ}
use Rattle.psu_turn.specs.Seats.{IsOf}
use Rattle.psu_exec.specs.Shown.{outcome_of}
use Rattle.psu_bench.specs.Tries.{AreTries}
use Rattle.psu_bench.proofs.working.session_worker.Given as goal

abbrev pub invariant-loop-left : goal.invariant-loop-left
invariant-loop-left g l = record {
  own : IsOf l.fn.bench l.seat;
  tried : (count : ℕ) × AreTries g.D.Disk.honest l.fn.session l.fn.request l.fn.seat count (outcome_of l.outcome) l.seat × (count + l.left ≡ l.fn.tries);
}

abbrev pub decreases-loop-left : goal.decreases-loop-left
decreases-loop-left g l = l.left
