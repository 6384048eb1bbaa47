use Rattle.std.proofs.Common.{◌≡◌, ◌++◌}
use Rattle.std.specs.List.{flat_map, AllByRecursion}
use Rattle.psu_nv.specs.Contents.{IsMacro, macro_bytes}
use Rattle.psu_nv.specs.Entries.{macros_of}
use Rattle.psu_nv.proofs.macros.Macros.value.Given as goal

abbrev pub invariant-loop-label : goal.invariant-loop-label
invariant-loop-label g l = record {
  so_far : l.value.items ++ flat_map macro_bytes (macros_of l.label-iterator) ≡ flat_map macro_bytes l.self;
  good : AllByRecursion IsMacro (macros_of l.label-iterator);
}
