use Rattle.psu_turn.specs.Seats.{IsOf}
use Rattle.psu_bench_tests.proofs.many.one_thread.Given as goal

abbrev pub invariant-loop : goal.invariant-loop
invariant-loop g l = IsOf l.fn.bench l.seat
