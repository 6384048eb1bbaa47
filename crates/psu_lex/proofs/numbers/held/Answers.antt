use Rattle.std.proofs.Common.{◌≤◌, ◌<◌, ◌++◌, length, arith, length-append, sym, subst, ℕ}
use Rattle.psu_lex.proofs.Rounding.{digit_in, value_more}
use Rattle.psu_lex.proofs.numbers.held.Goals as goal

pub overflow_sub-digit : goal.overflow_sub-digit
overflow_sub-digit c =
    let within : c.loop-at.at < length (c.args.whole.now ++ c.args.fraction.now) = omega (arith, c.loop-at-test.true, c.requires.within, length-append c.args.whole.now c.args.fraction.now) in
    subst (λ (z : ℕ). 48 ≤ z) (sym c.digit_at-digit.ensures) ((digit_in (c.args.whole.now ++ c.args.fraction.now) c.loop-at.at c.requires.each within).0)

pub loop-at-preserved : goal.loop-at-preserved
loop-at-preserved c =
    let within : c.loop-at.at < length (c.args.whole.now ++ c.args.fraction.now) = omega (arith, c.loop-at-test.true, c.requires.within, length-append c.args.whole.now c.args.fraction.now) in
    let more = value_more (c.args.whole.now ++ c.args.fraction.now) c.loop-at.at within in
    record {
      small = omega (arith, c.min-value.ensures);
      so_far = omega (arith, c.min-value.ensures, c.loop-at.invariant.so_far, more, c.digit_at-digit.ensures);
    }
