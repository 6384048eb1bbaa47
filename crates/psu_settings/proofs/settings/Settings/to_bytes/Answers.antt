use Rattle.std.proofs.Common.{◌≡◌, ℕ, ◌+◌, ◌-◌, ◌*◌, ◌<◌, ◌≤◌, List, ◌++◌, length, get_or, take, refl, sym, ◌∙◌, ap, subst, arith}
use Rattle.std.proofs.Math.Seq.{take-length}
use Rattle.std.proofs.lemmas.Slice.{take-put_mid}
use borrow.Rule.Slice.PartMut.{same_len_mid}
use Rattle.psu_settings.specs.Settings.{bytes_of, output_bytes}
use Rattle.psu_settings.proofs.Blank.{blank_settings}
use Rattle.psu_settings.proofs.Pieces.{one_more}
use Rattle.psu_settings.proofs.settings.Settings.to_bytes.Goals as goal

pub loop-place-init : goal.loop-place-init
loop-place-init c = (refl, refl)

pub loop-place-preserved : goal.loop-place-preserved
loop-place-preserved c =
    let k : ℕ = c.loop-place.place in
    let bytes = c.loop-place.bytes in
    let outputs = c.self.inside.outputs in
    let new : List ℕ = c.copy_from_slice.new.self in
    let copied : new ≡ output_bytes (get_or outputs k blank_settings) = c.copy_from_slice.ensures.after ∙ c.to_bytes-these.ensures in
    let seven : length new ≡ 7 = ap (λ (l : List ℕ). length l) copied in
    let lt = c.loop-place-test.true in
    let inside : k < length outputs = omega (arith, lt, c.self.invariant.0) in
    let within : 7 * k ≤ length bytes = omega (arith, lt, c.loop-place.invariant.0) in (
      same_len_mid (7 * k) (7 * k + 7 - 7 * k) bytes new c.copy_from_slice.ensures.len ∙ c.loop-place.invariant.0,
      take-put_mid (7 * k) (7 * k + 7 - 7 * k) bytes new (7 * (k + 1)) (omega (arith, seven)) within
          ∙ ap (λ (l : List ℕ). l ++ new) c.loop-place.invariant.1 ∙ ap (λ (l : List ℕ). bytes_of (take k outputs) ++ l) copied ∙ sym (one_more outputs k blank_settings inside),
    )

pub returns : goal.returns
returns c =
    let end : c.loop-place.place ≡ 4 = let most = c.loop-place.auto.place-end in let least = c.loop-place-test.false in omega (arith, most, least) in
    let outputs = c.self.inside.outputs in
    let done = subst (λ (n : ℕ). take (7 * n) c.loop-place.bytes ≡ bytes_of (take n outputs)) end c.loop-place.invariant.1 in
    sym (ap (λ (n : ℕ). take n c.loop-place.bytes) (sym c.loop-place.invariant.0) ∙ take-length c.loop-place.bytes)
    ∙ done ∙ ap bytes_of (ap (λ (n : ℕ). take n outputs) (sym c.self.invariant.0) ∙ take-length outputs) ∙ ap bytes_of c.self.view_is
