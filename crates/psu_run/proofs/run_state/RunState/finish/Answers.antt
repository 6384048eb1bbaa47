use Rattle.psu_run.proofs.Common.{◌∙◌, arith, sym, messages, nat_tests, Device}
use Rattle.psu_run.proofs.Reading.{answers_flushed, answers_stop}
use Rattle.psu_run.proofs.Stopping.{flush_stops, flushed_ends, halted_fails, unflushed_stops}
use Rattle.psu_run.proofs.run_state.RunState.finish.Goals as goal

pub returns-in-Err-clause-early : goal.returns-in-Err-clause-early
returns-in-Err-clause-early g c =
    let fault = c.fault.result in let stops = c.in-Err.ensures.stops in
    answers_stop (messages c.args.self.lines.line.items) fault _ _ c.in_ok-powered.ensures.whole (λ e. c.in-Err.ensures.other (sym c.fault.ensures.cause_is ∙ e))
    (flush_stops c.in-Err.cause fault stops c.fault.ensures) (λ before t. halted_fails before c.in-Err.cause fault c.fault.ensures stops t)

pub returns-then-not-is_flushed-clause-early : goal.returns-then-not-is_flushed-clause-early
returns-then-not-is_flushed-clause-early g c =
    let f = c.fault-then-not-is_flushed in
    let stops = unflushed_stops c.in-Ok.ensures.flushes (λ h. c.in-Ok.ensures.clean h) (λ none. grind (arith, nat_tests, c.is_flushed.ensures, c.if-not-is_flushed.true, none)) in
    answers_stop (messages c.args.self.lines.line.items) f.result _ _ c.in_ok-powered.ensures.whole (λ e. let bad = sym f.ensures.cause_is ∙ e in cc)
    (flush_stops Device f.result stops f.ensures) (λ before t. halted_fails before Device f.result f.ensures stops t)

pub returns-clause-whole : goal.returns-clause-whole
returns-clause-whole g c =
    answers_flushed (messages c.args.self.lines.line.items) c.into_disk.result _ _ c.in_ok-powered.ensures.whole
    (flushed_ends c.into_disk.result c.in-Ok.ensures.flushes (grind (arith, nat_tests, c.is_flushed.ensures, c.if-not-is_flushed.false)) c.into_disk.ensures.same)
