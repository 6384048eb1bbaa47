use Rattle.std.proofs.Common.{◌≡◌, ℕ, arith, length, ap, ◌∙◌}
use Rattle.std.proofs.lemmas.List.{length-replicate}
use Rattle.psu_disk.specs.Memory.{memory}
use Rattle.psu_guide.proofs.Playing.{new_disk}
use Rattle.psu_guide.proofs.play.new_image.Goals as goal

pub format-requires-clause-room : goal.format-requires-clause-room
format-requires-clause-room g c = let size = ap length c.in-Ok.ensures.bytes ∙ length-replicate {A = ℕ} 263168 0 in omega (arith, size)

pub returns : goal.returns
returns g c =
    let at = c.into_disk.result in
    let store = c.in-Ok-format.store in
    let fresh = c.in-Ok-format.ensures.fresh in
    let size : length at.bytes.items ≡ 263168 =
    ap (λ d. length d.bytes.items) c.into_disk.ensures.value ∙ c.in-Ok-format.ensures.step.extent ∙ ap length c.in-Ok.ensures.bytes ∙ length-replicate {A = ℕ} 263168 0 in
    new_disk (memory at.bytes.items at.unsynced.items) store.limit store.number store.items size
    (c.into_disk.ensures.represents tt) fresh.1 fresh.0 (c.into_disk.ensures.number tt) fresh.3
