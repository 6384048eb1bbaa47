use Rattle.std.proofs.Common.{◌≡◌, ◌<◌, ℕ, ◌∷◌, [], length, slice_index_or}
use Rattle.std.specs.List.{AllByRecursion}
use Rattle.psu_settings.specs.Settings.{AreSettings, reset}
use Rattle.psu_map.specs.Map.{get}
use Rattle.psu_nv.specs.Contents.{register_items}
use Rattle.psu_nv.specs.Parts.{value_in}
use Rattle.psu_nv.proofs.decode.registers_in.Given as goal

abbrev pub invariant-loop-number : goal.invariant-loop-number
invariant-loop-number g l = record {
  count : length l.registers ≡ 100;
  are : AllByRecursion AreSettings l.registers;
  found : (r : ℕ) → r < l.number → value_in (register_items r (slice_index_or l.registers r reset)) ≡ get l.items (2 ∷ r ∷ []);
}
