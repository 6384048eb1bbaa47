use Rattle.std.proofs.Common.{◌≡◌, false, sym, ◌∙◌, ap, subst}
use Rattle.psu_outputs.specs.Outputs.{AreSettled, AreSupplies, any_conflicts, with_all}
use Rattle.psu_outputs.proofs.Lists.{all_settled, all_sound, length_set}
use Rattle.psu_outputs.proofs.outputs.Outputs.set.Goals as goal

pub invariant_of-self : goal.invariant_of-self
invariant_of-self c =
    let supplies = c.self.inside.supplies in
    let settings = c.outputs-settings.result in
    let made : with_all supplies settings ≡ c.with_all-self-inside.result = sym c.with_all-self-inside.ensures in
    let free : any_conflicts supplies settings ≡ false = ap (λ l. any_conflicts l settings) c.self.view_is ∙ sym c.conflicts.ensures ∙ c.if-conflicts.false in (
      subst AreSupplies made (length_set supplies settings (c.self.invariant.0.0 ∙ sym c.outputs-settings.ensures.allowed.0) ∙ c.self.invariant.0.0, all_sound supplies settings c.self.invariant.0.1 c.outputs-settings.ensures.allowed.1),
      subst AreSettled made (all_settled supplies settings free),
    )
