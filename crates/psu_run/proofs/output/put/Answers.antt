use Rattle.psu_run.proofs.Common.{arith}
use Rattle.psu_run.proofs.Cuts.{kept_nothing, put_short, put_step, writes_none}
use Rattle.psu_run.proofs.output.put.Goals as goal

pub loop-at-init : goal.loop-at-init
loop-at-init g c = (omega arith, writes_none (g.W.Sink.written c.args.writer.now))

pub loop-at-preserved : goal.loop-at-preserved
loop-at-preserved g c =
    put_step c.args.text.now c.loop-at.at c.in-Ok.count _ _ _ c.loop-at.invariant.0 c.in-Ok.ensures.bound c.loop-at.invariant.1 (record { bytes = c.in-Ok.ensures.bytes; failed = c.in-Ok.ensures.counted.1 (grind (arith, c.in-Ok.count-test)) })

pub returns-in-Ok-eq0-clause-short : goal.returns-in-Ok-eq0-clause-short
returns-in-Ok-eq0-clause-short g c = put_short c.args.text.now c.loop-at.at _ _ _ c.loop-at-test.true c.loop-at.invariant.1 (rw c.in-Ok-eq0.field-0-test at c.in-Ok-eq0.ensures.bytes) (c.in-Ok-eq0.ensures.counted.0 c.in-Ok-eq0.field-0-test)

pub returns-in-Err-clause-short : goal.returns-in-Err-clause-short
returns-in-Err-clause-short g c = put_short c.args.text.now c.loop-at.at _ _ _ c.loop-at-test.true c.loop-at.invariant.1 (kept_nothing _ _ c.in-Err.ensures.bytes) c.in-Err.ensures.counted
