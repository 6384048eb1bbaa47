use Rattle.std.proofs.Common.{ap, ◌∙◌}
use Rattle.psu_exec.specs.Shown.{over_of}
use Rattle.psu_bench.specs.Callers.{ending_of}
use Rattle.psu_bench.proofs.bench.Bench.round.Goals as goal

pub returns-clause-calls : goal.returns-clause-calls
returns-clause-calls g c = record {
  run = record { job = c.in_ok-job.job; finished = c.run-finished.result.end; time = c.run-finished.ensures.time };
  ran = c.run-finished.ensures.end;
  stands = c.run-finished.ensures.stands;
  given = over_of c.call-given.result;
  mid = c.call.new.seat;
  took = c.in_ok-job.ensures.call;
  gave = c.call-given.ensures.call;
  ended = c.of-ending.ensures ∙ ap ending_of c.end.ensures;
  are_over = c.sessions_over.ensures;
}
