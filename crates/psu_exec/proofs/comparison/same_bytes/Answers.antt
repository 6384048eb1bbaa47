use Rattle.std.proofs.Common.{◌≡◌, ◌-◌, List, ap, arith, drop, length, refl, sym, ◌∙◌, ℕ}
use Rattle.psu_exec.proofs.Vectors.{last_part, same_by_ends}
use Rattle.psu_exec.proofs.comparison.same_bytes.Goals as goal

pub returns-then-same_vector : goal.returns-then-same_vector
returns-then-same_vector c =
    let one = c.args.one.now in
    let other = c.args.other.now in
    let n = length one in
    let as_long : length other ≡ n = cc in
    let last = c.same_vector-then-same_vector.ensures in
    let one_is = last_part one (n - (n - 16)) (n - 16) (omega (arith, c.if-len-lt16.false)) (omega (arith, c.if-len-lt16.false)) in
    let other_is = last_part other (length other - (n - 16)) (n - 16) (omega (arith, as_long, c.if-len-lt16.false)) (omega (arith, as_long, c.if-len-lt16.false)) in (
      λ t. same_by_ends one other n refl as_long c.if-len-lt16.false c.if-len-gt32.false (c.same_vector.ensures.0 c.if-same_vector.true) (sym one_is ∙ last.0 t ∙ other_is),
      λ same. last.1 (one_is ∙ ap (λ (l : List ℕ). drop (n - 16) l) same ∙ sym other_is),
    )
