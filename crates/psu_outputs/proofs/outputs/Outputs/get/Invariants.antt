use Rattle.std.proofs.Common.{◌≡◌}
use Rattle.psu_outputs.specs.Outputs.{all_settings}
use Rattle.psu_outputs.proofs.Written.{written}
use Rattle.psu_outputs.proofs.outputs.Outputs.get.Given as goal

abbrev pub invariant-loop-place : goal.invariant-loop-place
invariant-loop-place l = l.settings ≡ written l.place (all_settings l.self-inside.supplies) l.initial.settings
