use Rattle.std.proofs.Common.{◌≡◌, map}
use Rattle.psu_outputs.specs.Outputs.{without_trip}
use Rattle.psu_outputs.proofs.Written.{written}
use Rattle.psu_outputs.proofs.outputs.without_trips.Given as goal

abbrev pub invariant-loop-place : goal.invariant-loop-place
invariant-loop-place l = l.supplies ≡ written l.place (map without_trip l.fn.supplies) l.fn.supplies
