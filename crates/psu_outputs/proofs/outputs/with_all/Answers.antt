use Rattle.std.proofs.Common.{◌≡◌, ℕ, ◌<◌, List, length, get_or, set, refl, sym, ◌∙◌, ap, arith}
use Rattle.psu_settings.specs.declared.output_settings.OutputSettings.{OutputSettings}
use Rattle.psu_settings.proofs.Blank.{blank_settings}
use Rattle.psu_settings.proofs.Ranges.{each_passes}
use Rattle.psu_outputs.specs.declared.supply.Supply.{Supply}
use Rattle.psu_outputs.specs.Outputs.{is_sound, with_all, with_settings}
use Rattle.psu_outputs.proofs.Blank.{blank}
use Rattle.psu_outputs.proofs.Lists.{length_set, set_at}
use Rattle.psu_outputs.proofs.Ranges.{some_load}
use Rattle.psu_outputs.proofs.Written.{all_written, next_is, one_more, written}
use Rattle.psu_outputs.proofs.outputs.with_all.Goals as goal

-- the next output is still that of before
was : (k : ℕ) (supplies now : List Supply) (outputs : List OutputSettings) → k < 4 → length supplies ≡ 4 → length outputs ≡ 4 → now ≡ written k (with_all supplies outputs) supplies → get_or now k blank ≡ get_or supplies k blank
was k supplies now outputs lt four long is =
    let same = length_set supplies outputs (four ∙ sym long) in
    ap (λ (l : List Supply). get_or l k blank) is ∙ next_is k (with_all supplies outputs) supplies blank (omega (arith, lt, same, four)) (omega (arith, lt, four))

pub loop-place-init : goal.loop-place-init
loop-place-init c = refl

pub with_settings-requires : goal.with_settings-requires
with_settings-requires c =
    let k : ℕ = c.loop-place.place in
    let lt = c.loop-place-test.true in
    let first = was k c.args.supplies c.loop-place.supplies c.args.settings.now lt c.requires.0 c.told-settings c.loop-place.invariant in
    some_load (get_or c.loop-place.supplies k blank) (ap is_sound first ∙ each_passes is_sound c.args.supplies k blank c.requires.1 (omega (arith, lt, c.requires.0)))

pub loop-place-preserved : goal.loop-place-preserved
loop-place-preserved c =
    let k : ℕ = c.loop-place.place in
    let lt = c.loop-place-test.true in
    let supplies = c.args.supplies in
    let outputs = c.args.settings.now in
    let new = with_all supplies outputs in
    let first = was k supplies c.loop-place.supplies outputs lt c.requires.0 c.told-settings c.loop-place.invariant in
    let inside : k < length supplies = omega (arith, lt, c.requires.0) in
    let same = length_set supplies outputs (c.requires.0 ∙ sym c.told-settings) in
    ap (set c.loop-place.supplies k) (c.with_settings.ensures ∙ ap (λ (s : Supply). with_settings s (get_or outputs k blank_settings)) first
    ∙ sym (set_at supplies outputs k blank blank_settings inside (omega (arith, lt, c.told-settings))))
    ∙ ap (λ (l : List Supply). set l k (get_or new k blank)) c.loop-place.invariant
    ∙ one_more k new supplies blank (omega (arith, inside, same)) inside

pub returns : goal.returns
returns c =
    let end : c.loop-place.place ≡ 4 = let most = c.loop-place.auto.place-end in let least = c.loop-place-test.false in omega (arith, most, least) in
    let same = length_set c.args.supplies c.args.settings.now (c.requires.0 ∙ sym c.told-settings) in
    c.loop-place.invariant ∙ all_written c.loop-place.place (with_all c.args.supplies c.args.settings.now) c.args.supplies (end ∙ sym c.requires.0 ∙ sym same) same
