use Rattle.psu_turn.specs.Seats.{IsOf}
use Rattle.psu_bench.specs.Callers.{MakesRounds}
use Rattle.psu_bench.proofs.flushing.flusher.Given as goal

abbrev pub invariant-loop : goal.invariant-loop
invariant-loop g l = IsOf l.fn.bench l.seat × MakesRounds g.row.A.Denot g.D.Disk l.counter l.fn.seat l.seat
