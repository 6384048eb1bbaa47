use Rattle.psu_run.proofs.Common.{length, take, ◌-◌, ◌≤◌, Writes}
use Rattle.psu_run.proofs.output.put.Given as goal

abbrev pub invariant-loop-at : goal.invariant-loop-at
invariant-loop-at g l = (l.at ≤ length l.text) × Writes (g.W.Sink.written l.initial.writer) (g.W.Sink.written l.writer) (take l.at l.text)

abbrev pub decreases-loop-at : goal.decreases-loop-at
decreases-loop-at g l = length l.text - l.at
