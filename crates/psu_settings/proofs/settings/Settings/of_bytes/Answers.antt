use Rattle.std.proofs.Common.{◌≡◌, ℕ, ◌+◌, ◌-◌, ◌*◌, ◌<◌, List, length, get_or, take, drop, refl, sym, ◌∙◌, ap, subst, arith}
use Rattle.psu_settings.specs.Settings.{bytes_of, reset_output}
use Rattle.psu_settings.proofs.Apart.{same_settings}
use Rattle.psu_settings.proofs.Pieces.{AreRead, all_read, piece, read_more, size}
use Rattle.psu_settings.proofs.Ranges.{each_passes}
use Rattle.psu_settings.proofs.settings.Settings.of_bytes.Goals as goal

pub returns-then-bytes-ne28-clause-none : goal.returns-then-bytes-ne28-clause-none
returns-then-bytes-ne28-clause-none c = λ outputs are is.
    let long : length (bytes_of outputs) ≡ length c.args.bytes.now = ap (λ (l : List ℕ). length l) is in
    let seven = size outputs in
    c.if-bytes-ne28.true (omega (arith, long, seven, are.0))

pub loop-place-init : goal.loop-place-init
loop-place-init c = (refl, refl, refl)

seven_left : (k : ℕ) → 7 * k + 7 - 7 * k ≡ 7
seven_left k = omega arith

pub returns-in_default-clause-none : goal.returns-in_default-clause-none
returns-in_default-clause-none c = λ outputs are is.
    let k : ℕ = c.loop-place.place in
    let inside : k < length outputs = let lt = c.loop-place-test.true in omega (arith, lt, are.0) in
    c.in_default.ensures.none (get_or outputs k reset_output) (each_passes _ outputs k reset_output are.1 inside)
    (sym (piece outputs k reset_output inside) ∙ ap (λ (l : List ℕ). take 7 (drop (7 * k) l)) is ∙ ap (λ (n : ℕ). take n (drop (7 * k) c.args.bytes.now)) (sym (seven_left k)))

pub loop-place-preserved : goal.loop-place-preserved
loop-place-preserved c =
    let k : ℕ = c.loop-place.place in
    read_more c.args.bytes.now k c.loop-place.outputs c.in-Some.output c.loop-place.invariant c.loop-place-test.true c.in-Some.ensures.found.0
    (c.in-Some.ensures.found.1 ∙ ap (λ (n : ℕ). take n (drop (7 * k) c.args.bytes.now)) (seven_left k))

pub invariant_of-result : goal.invariant_of-result
invariant_of-result c = (c.loop-place.invariant.0, c.loop-place.invariant.1)

pub returns-clause-found : goal.returns-clause-found
returns-clause-found c =
    let end : c.loop-place.place ≡ 4 = let most = c.loop-place.auto.place-end in let least = c.loop-place-test.false in omega (arith, most, least) in
    all_read c.args.bytes.now c.loop-place.outputs (subst (λ (n : ℕ). AreRead c.args.bytes.now n c.loop-place.outputs) end c.loop-place.invariant) c.if-bytes-ne28.false

pub returns-clause-allowed : goal.returns-clause-allowed
returns-clause-allowed c = (c.loop-place.invariant.0, c.loop-place.invariant.1)

pub returns-clause-again : goal.returns-clause-again
returns-clause-again c = λ outputs are is.
    same_settings c.loop-place.outputs outputs (c.loop-place.invariant.0, c.loop-place.invariant.1) are (returns-clause-found c ∙ sym is)
