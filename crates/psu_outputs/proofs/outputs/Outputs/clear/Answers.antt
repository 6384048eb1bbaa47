use Rattle.std.proofs.Common.{◌≡◌, ◌<◌, ◌∙◌, length, get_or, arith, length-set}
use Rattle.psu_outputs.specs.declared.supply.Supply.{Supply}
use Rattle.psu_outputs.specs.Outputs.{is_settled, is_sound}
use Rattle.psu_settings.proofs.Ranges.{each_passes, all_pass}
use Rattle.psu_outputs.proofs.Settled.{settled_cleared}
use Rattle.psu_outputs.proofs.outputs.Outputs.clear.Goals as goal

pub invariant_of-self : goal.invariant_of-self
invariant_of-self c =
    let supplies = c.self.inside.supplies in
    let place = c.place-place.result in
    let sound = c.self.invariant.0 in
    let four : length supplies ≡ 4 = sound.0 in
    let inside : place < length supplies = let low = c.place-place.ensures.inside in omega arith in
    let supply : Supply = get_or supplies place _ in (
      (length-set supplies place _ ∙ four, all_pass is_sound supplies place _ sound.1 (each_passes is_sound supplies place _ sound.1 inside)),
      all_pass is_settled supplies place _ c.self.invariant.1 (settled_cleared supply (each_passes is_settled supplies place _ c.self.invariant.1 inside)),
    )
