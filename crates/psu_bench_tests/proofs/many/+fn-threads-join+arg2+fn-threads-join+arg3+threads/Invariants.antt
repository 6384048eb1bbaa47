use Rattle.std.proofs.Common.{◌+◌, ◌*◌}
use Rattle.psu_bench_tests.proofs.many.+fn-threads-join+arg2+fn-threads-join+arg3+threads.Given as goal

abbrev pub decreases-join+arg2 : goal.decreases-join+arg2
decreases-join+arg2 g l = l.half * 2 + 2

abbrev pub decreases-join+arg3 : goal.decreases-join+arg3
decreases-join+arg3 g l = l.half * 2 + 2

abbrev pub decreases-threads : goal.decreases-threads
decreases-threads g l = l.doublings * 2 + 1
