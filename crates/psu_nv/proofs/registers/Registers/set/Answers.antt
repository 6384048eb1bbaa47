use Rattle.std.proofs.Common.{◌∙◌, length-set}
use Rattle.std.proofs.lemmas.List.{map-set}
use Rattle.psu_settings.specs.Settings.{is_reset}
use Rattle.psu_nv.proofs.registers.Registers.set.Goals as goal

pub invariant_of-self : goal.invariant_of-self
invariant_of-self c =
    let view = c.self.view_is in
    let first = c.number.ensures.value in
    let second = c.number-2.ensures.value in
    let reset = c.is_reset.ensures in
    let old = c.self.invariant in
    let all = map-set is_reset c.self.inside.all c.number.result c.args.settings in
    let pages = c.pages_with-pages.ensures in
    (cc, length-set c.self.inside.all c.number.result c.args.settings ∙ old.1, cc)
