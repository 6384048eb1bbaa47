use Rattle.std.proofs.Common.{◌≡◌, take, false}
use Rattle.std.specs.List.{list_any}
use Rattle.psu_outputs.specs.Outputs.{is_in_limit}
use Rattle.psu_outputs.proofs.outputs.Outputs.is_in_limit.Given as goal

abbrev pub invariant-loop-supply : goal.invariant-loop-supply
invariant-loop-supply l = list_any is_in_limit (take l.supply-index l.supply-items) ≡ false
