use Rattle.std.proofs.Common.{Some}
use Rattle.psu_bench.proofs.bench.Bench.in_turn.Given as goal

abbrev pub ghosts-leave : goal.ghosts-leave
ghosts-leave g a = record { entry = Some (g.O.Operation.entry a._call.now.value a._reply.now) }
