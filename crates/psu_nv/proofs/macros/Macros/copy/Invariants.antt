use Rattle.std.proofs.Common.{◌≡◌, ◌++◌}
use Rattle.psu_nv.specs.Entries.{macros_of}
use Rattle.psu_nv.proofs.macros.Macros.copy.Given as goal

abbrev pub invariant-loop-label : goal.invariant-loop-label
invariant-loop-label g l = macros_of (l.map.entries ++ l.label-iterator) ≡ l.self
