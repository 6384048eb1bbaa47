use Rattle.std.proofs.Common.{arith}
use Rattle.psu_lex.proofs.Rounding.{digit_in, held_digit}
use Rattle.psu_lex.proofs.numbers.appended.Goals as goal

pub overflow_sub-digit : goal.overflow_sub-digit
overflow_sub-digit c = (digit_in c.args.digits.now c.loop-digit.digit-index c.requires.each c.loop-digit-test.true).0

pub loop-digit-preserved : goal.loop-digit-preserved
loop-digit-preserved c =
    let more = held_digit c.args.value c.args.digits.now c.loop-digit.digit-index c.loop-digit-test.true in
    record {
      small = omega (arith, c.min-value.ensures);
      so_far = omega (arith, c.min-value.ensures, c.loop-digit.invariant.so_far, more);
    }
