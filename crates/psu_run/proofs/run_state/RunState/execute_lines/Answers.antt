use Rattle.psu_run.proofs.Common.{◌∙◌, ◌∷◌, ◌++◌, arith, refl, [], subst, sym, Answers, EndsEarly, Message, held, passed, source_of}
use Rattle.psu_run.proofs.Cuts.{free_all, free_before, says_none}
use Rattle.psu_run.proofs.Going.{steps_as}
use Rattle.psu_run.proofs.Stopping.{halted, halted_fails, power_text}
use Rattle.psu_run.proofs.Feeding.{fed_none, feed_end, feed_refused, feed_step, feed_stops, line_stops, plain_message, power_message}
use Rattle.psu_run.proofs.run_state.RunState.execute_lines.Goals as goal

pub loop-at-init : goal.loop-at-init
loop-at-init g c = record {
  within = omega arith;
  fresh = c.requires;
  fed = ([], refl, fed_none c.args.self.lines.line.items c.args.self.responder.powered.exec (held (g.W.Sink.written c.args.writer.now) (c.args.self.responder.output.items ++ c.args.self.responder.gathered.rest)));
}

pub ended-requires : goal.ended-requires
ended-requires g c = free_before 10 c.loop-at.rest.now c.in-Some.at c.in-Some.ensures

pub extend-requires : goal.extend-requires
extend-requires g c = free_all 10 c.loop-at.rest.now c.in_default.ensures

pub returns-in-Err-clause-stopped : goal.returns-in-Err-clause-stopped
returns-in-Err-clause-stopped g c = λ input.
    let e = c.end_early.ensures.ends in let run = c.loop-at.run in
    e.2 _ _ _ (feed_refused c.args.self.lines.line.items run.lines.line.items c.args.piece.now c.loop-at.rest.now c.in-Err.sign e.0 _ _ c.loop-at.invariant.fed e.1 input)

pub returns-in-Err-extend-clause-stopped : goal.returns-in-Err-extend-clause-stopped
returns-in-Err-extend-clause-stopped g c = λ input.
    let e = c.end_early-in-Err-extend.ensures.ends in let run = c.loop-at.run in
    e.2 _ _ _ (feed_refused c.args.self.lines.line.items run.lines.line.items c.args.piece.now c.loop-at.rest.now c.in-Err-extend.sign e.0 _ _ c.loop-at.invariant.fed e.1 input)

pub returns-in_err-run-clause-stopped : goal.returns-in_err-run-clause-stopped
returns-in_err-run-clause-stopped g c =
    let e = c.in_err-run in let fault = e.field-0.0 in let run = c.loop-at.run in let line = c.in-Ok.line.now in
    passed c.from_residual.result fault _ c.from_residual.ensures.1
    (feed_stops c.args.self.lines.line.items run.lines.line.items c.args.piece.now c.loop-at.rest.now fault _ _ _ c.loop-at.invariant.fed
    (line_stops run.lines.line.items c.loop-at.rest.now c.in-Some.at line fault _ _ c.in-Some.ensures c.in-Ok.ensures.line c.in-Ok.ensures.free
    (λ later. subst (λ (m : Message). EndsEarly run.responder.powered.exec fault (m ∷ later) (held (g.W.Sink.written c.loop-at.writer) (run.responder.output.items ++ run.responder.gathered.rest)) (held (g.W.Sink.written c.restart.new.writer) []))
    (sym (power_message line (sym c.is_power.ensures ∙ c.if-is_power.true))) (e.ensures.stops later))))

pub returns-in-Err-answer_line-clause-stopped : goal.returns-in-Err-answer_line-clause-stopped
returns-in-Err-answer_line-clause-stopped g c = λ input.
    let e = c.end_early-in-Err-answer_line.ensures.ends in let fault = e.0 in let run = c.loop-at.run in let after = c.answer_line.new.self in let line = c.in-Ok.line.now in let s = c.in-Err-answer_line.ensures.breaks in
    e.2 _ _ _ (feed_stops c.args.self.lines.line.items run.lines.line.items c.args.piece.now c.loop-at.rest.now fault _ _ _ c.loop-at.invariant.fed
    (line_stops run.lines.line.items c.loop-at.rest.now c.in-Some.at line fault _ _ c.in-Some.ensures c.in-Ok.ensures.line c.in-Ok.ensures.free
    (λ later. subst (λ (m : Message). EndsEarly run.responder.powered.exec fault (m ∷ later) (held (g.W.Sink.written c.loop-at.writer) (run.responder.output.items ++ run.responder.gathered.rest)) (held (g.W.Sink.written c.answer_line.new.writer) (after.output.items ++ after.gathered.rest)))
    (sym (plain_message line (sym c.is_power.ensures ∙ c.if-is_power.false)))
    ((s.0, rw e.1.cause_is s.1, halted c.in-Err-answer_line.cause fault (Message.Line (source_of line) ∷ later) s.0 s.2 e.1 (λ at. at)), λ before t. halted_fails before c.in-Err-answer_line.cause fault e.1 s.2 t))) input)

pub returns-in-Ok-extend-clause-fed : goal.returns-in-Ok-extend-clause-fed
returns-in-Ok-extend-clause-fed g c = feed_end c.args.self.lines.line.items c.loop-at.run.lines.line.items c.extend.new.self.line.items c.args.piece.now c.loop-at.rest.now _ _ c.loop-at.invariant.fed c.in-Ok-extend.ensures

pub loop-at-preserved-then-is_power : goal.loop-at-preserved-then-is_power
loop-at-preserved-then-is_power g c =
    let line = c.in-Ok.line.now in let run = c.loop-at.run in let e = c.in_ok-run.ensures in
    let t = held (g.W.Sink.written c.loop-at.writer) (run.responder.output.items ++ run.responder.gathered.rest) in
    let power : Answers (Message.Power ∷ []) run.responder.powered.exec c.in_ok-run.run'.responder.powered.exec t t = ([], says_none t, steps_as _ e.runs (λ p q r. (r, power_text p q r))) in
    rw (e.same.0, e.same.1, e.same.2, e.silent) (record {
      within = grind arith;
      fresh = c.loop-at.invariant.fresh;
      fed = feed_step c.args.self.lines.line.items run.lines.line.items c.args.piece.now c.loop-at.rest.now c.in-Some.at line c.clear.new.self.line.items
          _ _ _ c.in-Some.ensures c.loop-at.invariant.fed c.in-Ok.ensures.line c.in-Ok.ensures.free
          (subst (λ (m : Message). Answers (m ∷ []) run.responder.powered.exec c.in_ok-run.run'.responder.powered.exec t t) (sym (power_message line (sym c.is_power.ensures ∙ c.if-is_power.true))) power) c.clear.ensures;
    })

pub loop-at-preserved : goal.loop-at-preserved
loop-at-preserved g c =
    let line = c.in-Ok.line.now in let run = c.loop-at.run in let e = c.in-Ok-answer_line.ensures in record {
      within = grind arith;
      fresh = e.fresh;
      fed = feed_step c.args.self.lines.line.items run.lines.line.items c.args.piece.now c.loop-at.rest.now c.in-Some.at line c.clear-in-Ok-answer_line.new.self.line.items
          _ _ _ c.in-Some.ensures c.loop-at.invariant.fed c.in-Ok.ensures.line c.in-Ok.ensures.free
          (rw (plain_message line (sym c.is_power.ensures ∙ c.if-is_power.false)) e.runs) c.clear-in-Ok-answer_line.ensures;
    }
