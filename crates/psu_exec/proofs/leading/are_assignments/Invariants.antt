use Rattle.std.proofs.Common.{◌≡◌, ◌++◌, take}
use Rattle.std.specs.List.{flat_map}
use Rattle.psu_exec.specs.Batch.{assignment}
use Rattle.psu_exec.proofs.leading.are_assignments.Given as goal

abbrev pub invariant-loop-pair : goal.invariant-loop-pair
invariant-loop-pair g l = l.edits ≡ flat_map (assignment l.before.map) (take l.pair-index l.pairs) ++ l.rest
