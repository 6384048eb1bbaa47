use Rattle.psu_run.proofs.Common.{◌≡◌, ◌≤◌, ◌++◌, length, held, nothing}
use Rattle.psu_run.proofs.Feeding.{FedSo}
use Rattle.psu_run.proofs.run_state.RunState.execute_lines.Given as goal

abbrev pub invariant-loop-at : goal.invariant-loop-at
invariant-loop-at g l = record {
  within : length l.rest ≤ length l.piece;
  fresh : l.run.responder.gathered ≡ nothing;
  fed : FedSo l.initial.run.lines.line.items l.piece l.rest l.run.lines.line.items l.initial.run.responder.powered.exec l.run.responder.powered.exec
      (held (g.W.Sink.written l.initial.writer) (l.initial.run.responder.output.items ++ l.initial.run.responder.gathered.rest)) (held (g.W.Sink.written l.writer) (l.run.responder.output.items ++ l.run.responder.gathered.rest));
}

abbrev pub decreases-loop-at : goal.decreases-loop-at
decreases-loop-at g l = length l.rest
