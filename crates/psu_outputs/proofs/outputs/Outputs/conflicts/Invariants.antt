use Rattle.std.proofs.Common.{◌≡◌, false, take}
use Rattle.psu_outputs.specs.Outputs.{any_conflicts}
use Rattle.psu_outputs.proofs.outputs.Outputs.conflicts.Given as goal

abbrev pub invariant-loop-place : goal.invariant-loop-place
invariant-loop-place l = any_conflicts (take l.place l.self-inside.supplies) (take l.place l.settings) ≡ false
