use Rattle.psu_run.proofs.Common.{[], held, passed}
use Rattle.psu_run.proofs.Feeding.{answers_none}
use Rattle.psu_run.proofs.Reading.{last_answered, last_early}
use Rattle.psu_run.proofs.run_state.RunState.last_line.Goals as goal

pub returns-then-is_empty-clause-whole : goal.returns-then-is_empty-clause-whole
returns-then-is_empty-clause-whole g c = rw (c.into_device.ensures, c.is_empty.ensures.0 c.if-is_empty.true) (answers_none c.args.self.responder.powered.exec (held (g.W.Sink.written c.args.writer.now) []))

pub returns-in_err-run-clause-early : goal.returns-in_err-run-clause-early
returns-in_err-run-clause-early g c =
    passed c.from_residual.result c.in_err-run.field-0.0 _ c.from_residual.ensures.1
    (last_early c.args.self.lines.line.items c.in_err-run.field-0.0 _ _ (λ none. let some = c.is_empty.ensures.1 none in let not = c.if-is_empty.false in cc) c.args.self.lines.free c.in_err-run.ensures.stopped)

pub returns-clause-whole : goal.returns-clause-whole
returns-clause-whole g c =
    rw c.into_device-2.ensures (last_answered c.args.self.lines.line.items c.in_ok-run.run'.lines.line.items
    (held (g.W.Sink.written c.args.writer.now) []) (held (g.W.Sink.written c.answer.new.writer) [])
    (λ none. let some = c.is_empty.ensures.1 none in let not = c.if-is_empty.false in cc) c.args.self.lines.free c.in_ok-run.run'.lines.free c.in_ok-run.ensures.fed)
