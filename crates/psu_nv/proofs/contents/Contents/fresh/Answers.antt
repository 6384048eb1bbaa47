use Rattle.std.proofs.Common.{ℕ, List, length, sym, ap, subst, arith}
use Rattle.std.specs.List.{AllByRecursion}
use Rattle.psu_map.specs.Map.{IsSorted}
use Rattle.psu_settings.specs.declared.output_settings.OutputSettings.{OutputSettings}
use Rattle.psu_settings.specs.Settings.{AreSettings}
use Rattle.psu_nv.specs.Contents.{Macro, IsMacro, HasDistinct, IsFile}
use Rattle.psu_nv.proofs.Kept.{each_reset}
use Rattle.psu_nv.proofs.contents.Contents.fresh.Goals as goal

pub invariant_of-result : goal.invariant_of-result
invariant_of-result g c = record {
  count = ap (λ (l : List (List OutputSettings)). length l) c.reset.ensures;
  settings = subst (AllByRecursion AreSettings) (sym c.reset.ensures) (each_reset 100);
  user = omega (arith, ap (λ (l : List ℕ). length l) c.none.ensures);
  macros = subst (AllByRecursion IsMacro) (sym c.new.ensures) tt;
  distinct = subst HasDistinct (sym c.new.ensures) tt;
  most_macros = omega (arith, ap (λ (l : List Macro). length l) c.new.ensures);
  mss = λ e same. absurd cc;
  files = subst (AllByRecursion IsFile) (sym c.new-2.ensures) tt;
  sorted = subst IsSorted (sym c.new-2.ensures) tt;
}
