use Rattle.std.proofs.Common.{◌≡◌, ◌<◌, ◌∙◌, true, length, arith, rules, length-set}
use Rattle.psu_settings.specs.Settings.{is_allowed, is_in_range}
use Rattle.psu_settings.proofs.Ranges.{each_passes, all_pass, set_allowed}
use Rattle.psu_settings.proofs.settings.Settings.set.Goals as goal

pub invariant_of-self : goal.invariant_of-self
invariant_of-self c =
    let four : length c.self.inside.outputs ≡ 4 = c.self.invariant.0 in
    let inside : c.place-place.result < length c.self.inside.outputs = let low = c.place-place.ensures.inside in omega arith in
    let in_range : is_in_range c.args.setting ≡ true = search rules in
    let allowed : is_allowed c.with.result ≡ true =
    rw c.with.ensures (set_allowed _ c.args.setting (each_passes is_allowed c.self.inside.outputs c.place-place.result _ c.self.invariant.1 inside) in_range) in
    (length-set c.self.inside.outputs c.place-place.result c.with.result ∙ four, all_pass is_allowed c.self.inside.outputs c.place-place.result c.with.result c.self.invariant.1 allowed)
