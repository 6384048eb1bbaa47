use Rattle.psu_run.proofs.Common.{◌++◌, arith, WritesShort}
use Rattle.psu_run.proofs.Cuts.{short_behind}
use Rattle.psu_run.proofs.output.put_both.Goals as goal

pub returns-in_err-put-2-clause-short : goal.returns-in_err-put-2-clause-short
returns-in_err-put-2-clause-short g c =
    let short : WritesShort (g.W.Sink.written c.args.writer.now) (g.W.Sink.written c.put-2.new.writer) (c.args.first.now ++ c.args.second.now)
    = short_behind (g.W.Sink.written c.args.writer.now) (g.W.Sink.written c.put.new.writer) (g.W.Sink.written c.put-2.new.writer) c.args.first.now c.args.second.now c.in_ok-put.ensures.whole c.in_err-put-2.ensures.short in grind arith
