use Rattle.psu_run.proofs.Common.{◌++◌, [], held, passed}
use Rattle.psu_run.proofs.Reading.{fed_short, fed_written}
use Rattle.psu_run.proofs.Cuts.{none_told, told_alone}
use Rattle.psu_run.proofs.run_state.RunState.answer.Goals as goal

pub returns-in_err-run-clause-stopped : goal.returns-in_err-run-clause-stopped
returns-in_err-run-clause-stopped g c =
    let before = c.args.self in
    passed c.from_residual.result c.in_err-run.field-0.0 _ c.from_residual.ensures.1 (rw (none_told before.responder.output.items before.responder.gathered c.requires.none c.requires.fresh) at c.in_err-run.ensures.stopped)

pub returns-in_default-clause-stopped : goal.returns-in_default-clause-stopped
returns-in_default-clause-stopped g c =
    let before = c.args.self in let run = c.in_ok-run.run' in let e = c.in_ok-run.ensures in
    fed_short c.args.self.lines.line.items c.args.piece.now run.lines.line.items _ _ _ (rw (none_told before.responder.output.items before.responder.gathered c.requires.none c.requires.fresh) at e.fed)
    c.fault.result (rw (told_alone run.responder.output.items run.responder.gathered e.fresh, ← c.as_slice.ensures.value) c.in_default.ensures.short) c.fault.ensures

pub returns-clause-fed : goal.returns-clause-fed
returns-clause-fed g c =
    let before = c.args.self in let run = c.in_ok-run.run' in let e = c.in_ok-run.ensures in
    fed_written c.args.self.lines.line.items c.args.piece.now run.lines.line.items (held (g.W.Sink.written c.args.writer.now) []) (held (g.W.Sink.written c.execute_lines.new.writer) (run.responder.output.items ++ run.responder.gathered.rest)) _
    (rw (none_told before.responder.output.items before.responder.gathered c.requires.none c.requires.fresh) at e.fed) (rw (told_alone run.responder.output.items run.responder.gathered e.fresh, ← c.as_slice.ensures.value) c.in-Ok.ensures.whole)
