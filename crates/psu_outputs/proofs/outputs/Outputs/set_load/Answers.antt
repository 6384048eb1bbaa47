use Rattle.std.proofs.Common.{◌≡◌, ◌<◌, ◌∙◌, true, length, get_or, arith, rules, length-set}
use Rattle.psu_outputs.specs.declared.supply.Supply.{Supply}
use Rattle.psu_outputs.specs.Outputs.{is_settled, is_sound, is_load}
use Rattle.psu_outputs.proofs.Blank.{blank}
use Rattle.psu_settings.proofs.Ranges.{each_passes, all_pass}
use Rattle.psu_outputs.proofs.Ranges.{load_sound}
use Rattle.psu_outputs.proofs.Settled.{settled_load}
use Rattle.psu_outputs.proofs.outputs.Outputs.set_load.Goals as goal

pub invariant_of-self : goal.invariant_of-self
invariant_of-self c =
    let four : length c.self.inside.supplies ≡ 4 = c.self.invariant.0.0 in
    let inside : c.place-place.result < length c.self.inside.supplies = let low = c.place-place.ensures.inside in omega arith in
    let in_range : is_load c.args.load.0 ≡ true = search rules in
    let supply : Supply = get_or c.self.inside.supplies c.place-place.result blank in
    let was : is_sound supply ≡ true = each_passes is_sound c.self.inside.supplies c.place-place.result blank c.self.invariant.0.1 inside in
    let sound : is_sound c.with_load.result ≡ true = rw c.with_load.ensures (load_sound supply c.args.load.0 was in_range) in
    let calm : is_settled c.with_load.result ≡ true = rw c.with_load.ensures (settled_load supply c.args.load.0 (each_passes is_settled c.self.inside.supplies c.place-place.result blank c.self.invariant.1 inside)) in (
      (length-set c.self.inside.supplies c.place-place.result c.with_load.result ∙ four, all_pass is_sound c.self.inside.supplies c.place-place.result c.with_load.result c.self.invariant.0.1 sound),
      all_pass is_settled c.self.inside.supplies c.place-place.result c.with_load.result c.self.invariant.1 calm,
    )
