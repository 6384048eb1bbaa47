-- A page that is filled from its first byte on.
use Rattle.std.proofs.Common.{◌≡◌, ℕ, ◌+◌, ◌-◌, ◌≤◌, List, length, drop, replicate, sym, ◌∙◌, ap, arith}
use Rattle.std.proofs.lemmas.List.{drop-replicate, drop-drop}
use Rattle.std.proofs.lemmas.Slice.{drop-put_mid}
use borrow.Rule.Slice.PartMut.{put_mid}

-- the remaining zeros
pub zeros_left : (used n k : ℕ) (bytes ys : List ℕ) → used ≤ length bytes → drop used bytes ≡ replicate (512 - used) 0 → k ≡ n → length ys ≡ k → drop (used + n) (put_mid used k bytes ys) ≡ replicate (512 - (used + n)) 0
zeros_left used n k bytes ys within rest is long =
    drop-put_mid used k bytes ys (used + n) (omega (arith, is)) within long
    ∙ sym (drop-drop n used bytes)
    ∙ ap (drop n) rest
    ∙ drop-replicate n (512 - used) 0
    ∙ ap (λ (m : ℕ). replicate m 0) (let same : 512 - used - n ≡ 512 - (used + n) = omega arith in same)
