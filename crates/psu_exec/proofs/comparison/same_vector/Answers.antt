use Rattle.std.proofs.Common.{◌≡◌, ◌∙◌, ◌%◌, ◌^◌, Bool, List, ap, arith, length, nat_eq, take, w8}
use Rattle.std.specs.Simd.Lanes.{mask_l, zip2}
use Rattle.std.proofs.lemmas.List.{length-take}
use Rattle.std.proofs.lemmas.Simd.{length-zip2, mask_l-mod, tops_compared}
use Rattle.psu_exec.proofs.Vectors.{mask_tells}
use Rattle.psu_exec.proofs.comparison.same_vector.Goals as goal

pub returns : goal.returns
returns c =
    let xs = take 16 c.args.one.now in
    let ys = take 16 c.args.other.now in
    let one : length xs ≡ 16 = let t = length-take 16 c.args.one.now in omega (arith, c.requires.one, t) in
    let other : length ys ≡ 16 = let t = length-take 16 c.args.other.now in omega (arith, c.requires.other, t) in
    let lanes = length-zip2 nat_eq xs ys (omega (arith, one, other)) in
    mask_tells _ xs ys (ap (λ (bits : List Bool). mask_l bits % 2 ^ 64) (tops_compared w8 nat_eq xs ys) ∙ mask_l-mod (zip2 nat_eq xs ys) 64 (omega (arith, lanes, one))) one other
