use Rattle.psu_bench.proofs.caller.Caller.call.Goals as goal

pub returns-clause-quiet : goal.returns-clause-quiet
returns-clause-quiet g c = λ s new allows. c.queries_are_quiet.ensures s new _ (g.met.O.QuietOperation.quiet c.args.operation c.perform.result) allows.0
