use Rattle.std.proofs.Common.{◌∙◌, ap, arith, false, slice_index_or}
use Rattle.std.proofs.lemmas.List.{get_or-map}
use Rattle.psu_settings.specs.Settings.{is_reset, reset}
use Rattle.psu_nv.proofs.registers.Registers.is_reset.Goals as goal

pub returns : goal.returns
returns c =
    let view = c.self.view_is in
    let number = c.number.ensures.value in
    ap (λ l. slice_index_or l c.number.result false) c.self.invariant.0
    ∙ get_or-map is_reset c.self.inside.all c.number.result reset false (omega (arith, c.number.ensures.low, c.self.invariant.1)) ∙ cc
