use Rattle.std.proofs.Common.{◌≡◌, length, map, sym, ◌∙◌, ap, subst}
use Rattle.std.proofs.lemmas.List.{length-map}
use Rattle.psu_outputs.specs.Outputs.{AreSettled, AreSupplies, with_all, without_trip}
use Rattle.psu_outputs.proofs.Lists.{all_settled, all_sound, free_once_cleared, length_set, sound_once_cleared}
use Rattle.psu_outputs.proofs.outputs.Outputs.restore.Goals as goal

pub with_all-self-inside-requires : goal.with_all-self-inside-requires
with_all-self-inside-requires c =
    let supplies = c.self.inside.supplies in
    subst AreSupplies (sym c.without_trips.ensures) (length-map supplies without_trip ∙ c.self.invariant.0.0, sound_once_cleared supplies c.self.invariant.0.1)

pub invariant_of-self : goal.invariant_of-self
invariant_of-self c =
    let supplies = c.self.inside.supplies in
    let cleared = map without_trip supplies in
    let settings = c.outputs.result in
    let made : with_all cleared settings ≡ c.with_all-self-inside.result = sym (c.with_all-self-inside.ensures ∙ ap (λ l. with_all l settings) c.without_trips.ensures) in
    let four : length cleared ≡ 4 = length-map supplies without_trip ∙ c.self.invariant.0.0 in (
      subst AreSupplies made (length_set cleared settings (four ∙ sym c.outputs.ensures.allowed.0) ∙ four, all_sound cleared settings (sound_once_cleared supplies c.self.invariant.0.1) c.outputs.ensures.allowed.1),
      subst AreSettled made (all_settled cleared settings (free_once_cleared supplies settings)),
    )
