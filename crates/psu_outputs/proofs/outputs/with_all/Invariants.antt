use Rattle.std.proofs.Common.{◌≡◌}
use Rattle.psu_outputs.specs.Outputs.{with_all}
use Rattle.psu_outputs.proofs.Written.{written}
use Rattle.psu_outputs.proofs.outputs.with_all.Given as goal

abbrev pub invariant-loop-place : goal.invariant-loop-place
invariant-loop-place l = l.supplies ≡ written l.place (with_all l.fn.supplies l.fn.settings) l.fn.supplies
