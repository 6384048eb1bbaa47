use Rattle.std.proofs.Common.{◌≡◌, ℕ, List, length, take, refl, sym, ◌∙◌, ap, arith}
use Rattle.std.proofs.Math.Seq.{take-length}
use Rattle.psu_settings.proofs.Blank.{blank_settings}
use Rattle.psu_outputs.specs.declared.supply.Supply.{Supply}
use Rattle.psu_outputs.specs.Outputs.{any_conflicts}
use Rattle.psu_outputs.proofs.Blank.{blank}
use Rattle.psu_outputs.proofs.Lists.{conflict_at, free_more}
use Rattle.psu_outputs.proofs.outputs.Outputs.conflicts.Goals as goal

pub loop-place-init : goal.loop-place-init
loop-place-init c = refl

pub returns-then-conflicts : goal.returns-then-conflicts
returns-then-conflicts c =
    let k : ℕ = c.loop-place.place in
    let supplies = c.self.inside.supplies in
    let outputs = c.args.settings.now in
    let lt = c.loop-place-test.true in
    sym (
    ap (λ (l : List Supply). any_conflicts l outputs) (sym c.self.view_is)
    ∙ conflict_at supplies outputs k blank blank_settings (omega (arith, lt, c.self.invariant.0.0)) (omega (arith, lt, c.told-settings)) (sym c.conflicts.ensures ∙ c.if-conflicts.true)
    )

pub loop-place-preserved : goal.loop-place-preserved
loop-place-preserved c =
    let k : ℕ = c.loop-place.place in
    let lt = c.loop-place-test.true in
    free_more c.self.inside.supplies c.args.settings.now k blank blank_settings (omega (arith, lt, c.self.invariant.0.0)) (omega (arith, lt, c.told-settings)) c.loop-place.invariant
    (sym c.conflicts.ensures ∙ c.if-conflicts.false)

whole : {X : Type 0} (k : ℕ) (l : List X) → k ≡ 4 → length l ≡ 4 → take k l ≡ l
whole k l end four = ap (λ (n : ℕ). take n l) (end ∙ sym four) ∙ take-length l

pub returns : goal.returns
returns c =
    let end : c.loop-place.place ≡ 4 = let most = c.loop-place.auto.place-end in let least = c.loop-place-test.false in omega (arith, most, least) in
    let k : ℕ = c.loop-place.place in
    let supplies = c.self.inside.supplies in
    let outputs = c.args.settings.now in
    sym (
    ap (λ (l : List Supply). any_conflicts l outputs) (sym c.self.view_is)
    ∙ ap (λ (l : List Supply). any_conflicts l outputs) (sym (whole k supplies end c.self.invariant.0.0))
    ∙ ap (any_conflicts (take k supplies)) (sym (whole k outputs end c.told-settings))
    ∙ c.loop-place.invariant
    )
