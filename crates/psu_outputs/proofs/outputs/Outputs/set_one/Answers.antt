use Rattle.std.proofs.Common.{rules, ◌≡◌, inr, ◌<◌, ◌∙◌, true, false, length, get_or, refl, sym, ap, arith, length-set, set}
use Rattle.psu_outputs.specs.declared.supply.Supply.{Supply}
use Rattle.psu_settings.specs.Settings.{is_in_range}
use Rattle.psu_outputs.specs.Outputs.{conflicts, is_settled, is_sound, with_settings}
use Rattle.psu_outputs.proofs.Blank.{blank}
use Rattle.psu_settings.proofs.Ranges.{each_passes, all_pass}
use Rattle.psu_outputs.proofs.Ranges.{thing_sound}
use Rattle.psu_outputs.proofs.Settled.{settled_set, thing_conflicts, thing_set}
use Rattle.psu_outputs.proofs.outputs.Outputs.set_one.Goals as goal

pub returns-then-conflicts-clause-refused : goal.returns-then-conflicts-clause-refused
returns-then-conflicts-clause-refused c =
    let supplies = c.self.inside.supplies in
    let four : length supplies ≡ 4 = c.self.invariant.0.0 in
    let inside : c.place-place.result < length supplies = let low = c.place-place.ensures.inside in omega arith in
    let supply : Supply = get_or supplies c.place-place.result blank in
    let in_range : is_in_range c.args.setting ≡ true = search rules in
    let refused : conflicts supply c.with-settings.result ≡ true = sym c.conflicts.ensures ∙ c.if-conflicts.true in
    inr (
      refl,
      in_range,
      thing_conflicts supplies c.args.self.now c.self.view_is c.self.invariant.1 c.args.output c.place-place.result c.place-place.ensures.value inside blank c.args.setting
          ∙ ap (conflicts supply) (sym c.with-settings.ensures) ∙ refused,
    )

pub invariant_of-self : goal.invariant_of-self
invariant_of-self c =
    let supplies = c.self.inside.supplies in
    let place = c.place-place.result in
    let four : length supplies ≡ 4 = c.self.invariant.0.0 in
    let inside : place < length supplies = let low = c.place-place.ensures.inside in omega arith in
    let supply : Supply = get_or supplies place blank in
    let in_range : is_in_range c.args.setting ≡ true = search rules in
    let was : is_sound supply ≡ true = each_passes is_sound supplies place blank c.self.invariant.0.1 inside in
    let sound : is_sound c.with_settings.result ≡ true = rw (c.with_settings.ensures, c.with-settings.ensures) (thing_sound supply c.args.setting was in_range) in
    let calm : is_settled c.with_settings.result ≡ true = rw c.with_settings.ensures (settled_set supply c.with-settings.result (sym c.conflicts.ensures ∙ c.if-conflicts.false)) in (
      (length-set supplies place c.with_settings.result ∙ four, all_pass is_sound supplies place c.with_settings.result c.self.invariant.0.1 sound),
      all_pass is_settled supplies place c.with_settings.result c.self.invariant.1 calm,
    )

pub returns-clause-set : goal.returns-clause-set
returns-clause-set c =
    let supplies = c.self.inside.supplies in
    let place = c.place-place.result in
    let four : length supplies ≡ 4 = c.self.invariant.0.0 in
    let inside : place < length supplies = let low = c.place-place.ensures.inside in omega arith in
    let supply : Supply = get_or supplies place blank in
    let in_range : is_in_range c.args.setting ≡ true = search rules in
    let free : conflicts supply c.with-settings.result ≡ false = sym c.conflicts.ensures ∙ c.if-conflicts.false in (
      in_range,
      thing_conflicts supplies c.args.self.now c.self.view_is c.self.invariant.1 c.args.output place c.place-place.ensures.value inside blank c.args.setting ∙ ap (conflicts supply) (sym c.with-settings.ensures) ∙ free,
      ap (set supplies place) c.with_settings.ensures ∙ ap (λ o. set supplies place (with_settings supply o)) c.with-settings.ensures
          ∙ thing_set supplies c.args.self.now c.self.view_is c.self.invariant.1 c.args.output place c.place-place.ensures.value inside blank c.args.setting,
    )
