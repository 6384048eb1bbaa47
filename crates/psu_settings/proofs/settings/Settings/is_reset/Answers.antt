use Rattle.std.proofs.Common.{List, ◌∙◌, ap, subst}
use Rattle.std.specs.Cmp.Lexicographic.{pointwise}
use Rattle.psu_settings.specs.declared.output_settings.OutputSettings.{OutputSettings}
use Rattle.psu_settings.specs.Settings.{AreSettings}
use Rattle.psu_settings.proofs.Resets.{same_each, resets}
use Rattle.psu_settings.proofs.settings.Settings.is_reset.Goals as goal

-- src/settings.rt:43:5
pub returns : goal.returns
returns c =
    c.eq.ensures
    ∙ ap (λ (settings : List OutputSettings). pointwise same_each c.args.self.now settings) c.reset.ensures
    ∙ resets c.args.self.now (subst AreSettings c.self.view_is c.self.invariant)
