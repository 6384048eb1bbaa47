use Rattle.std.proofs.Common.{◌≡◌, ◌+◌}
use Rattle.psu_nv.specs.Costs.{macros_length}
use Rattle.psu_nv.specs.Entries.{macros_of}
use Rattle.psu_nv.proofs.macros.Macros.size.Given as goal

abbrev pub invariant-loop-label : goal.invariant-loop-label
invariant-loop-label g l = l.size + macros_length (macros_of l.label-iterator) ≡ macros_length l.self
