use Rattle.std.proofs.Common.{refl}
use Rattle.psu_bench.proofs.bench.Bench.in_turn.Goals as goal

pub returns-clause-call : goal.returns-clause-call
returns-clause-call g c = rw (← c.enter-taken.ensures.seat, ← c.of-call.ensures) (c.leave.ensures.call _ refl)
