use Rattle.std.proofs.Common.{◌≡◌, ℕ, ◌<◌, List, length, get_or, set, refl, sym, ◌∙◌, ap, arith}
use Rattle.std.specs.List.{list_all}
use Rattle.std.proofs.lemmas.List.{get_or-map, length-map}
use Rattle.psu_settings.specs.declared.output_settings.OutputSettings.{OutputSettings}
use Rattle.psu_settings.specs.Settings.{is_allowed, reset}
use Rattle.psu_settings.proofs.Blank.{blank_settings}
use Rattle.psu_outputs.specs.declared.supply.Supply.{Supply}
use Rattle.psu_outputs.specs.Outputs.{all_settings}
use Rattle.psu_outputs.proofs.Blank.{blank}
use Rattle.psu_outputs.proofs.Lists.{settings_allowed}
use Rattle.psu_outputs.proofs.Written.{all_written, one_more, written}
use Rattle.psu_outputs.proofs.outputs.Outputs.get.Goals as goal

pub loop-place-init : goal.loop-place-init
loop-place-init c = refl

pub loop-place-preserved : goal.loop-place-preserved
loop-place-preserved c =
    let k : ℕ = c.loop-place.place in
    let supplies = c.self.inside.supplies in
    let lt = c.loop-place-test.true in
    let inside : k < length supplies = omega (arith, lt, c.self.invariant.0.0) in
    let long : k < length (all_settings supplies) = rw (length-map supplies (λ (s : Supply). s.settings)) inside in
    ap (λ (l : List OutputSettings). set l k (let s = get_or supplies k blank in s.settings)) c.loop-place.invariant
    ∙ ap (λ (o : OutputSettings). set (written k (all_settings supplies) reset) k o) (sym (get_or-map (λ (s : Supply). s.settings) supplies k blank blank_settings inside))
    ∙ one_more k (all_settings supplies) reset blank_settings long lt

whole : (supplies : List Supply) (k : ℕ) (now : List OutputSettings) → length supplies ≡ 4 → k ≡ 4 → now ≡ written k (all_settings supplies) reset → now ≡ all_settings supplies
whole supplies k now four end is =
    let long : length (all_settings supplies) ≡ 4 = length-map supplies (λ (s : Supply). s.settings) ∙ four in
    is ∙ all_written k (all_settings supplies) reset (end ∙ sym long) long

pub of_outputs-requires : goal.of_outputs-requires
of_outputs-requires c =
    let end : c.loop-place.place ≡ 4 = let most = c.loop-place.auto.place-end in let least = c.loop-place-test.false in omega (arith, most, least) in
    ap (list_all is_allowed) (whole c.self.inside.supplies c.loop-place.place c.loop-place.settings c.self.invariant.0.0 end c.loop-place.invariant) ∙ settings_allowed c.self.inside.supplies c.self.invariant.0.1

pub returns : goal.returns
returns c =
    let end : c.loop-place.place ≡ 4 = let most = c.loop-place.auto.place-end in let least = c.loop-place-test.false in omega (arith, most, least) in
    c.of_outputs.ensures ∙ whole c.self.inside.supplies c.loop-place.place c.loop-place.settings c.self.invariant.0.0 end c.loop-place.invariant ∙ ap all_settings c.self.view_is
