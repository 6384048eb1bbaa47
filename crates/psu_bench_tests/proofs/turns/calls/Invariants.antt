use Rattle.psu_turn.specs.Seats.{IsOf}
use Rattle.psu_bench_tests.proofs.turns.calls.Given as goal

abbrev pub invariant-loop : goal.invariant-loop
invariant-loop g l = IsOf l.fn.bench l.seat
