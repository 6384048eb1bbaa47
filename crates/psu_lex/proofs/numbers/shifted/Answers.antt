use Rattle.std.proofs.Common.{◌^◌, ◌*◌, min, sym, ap, ◌∙◌, arith, ℕ}
use Rattle.psu_lex.proofs.Rounding.{shift_step, power_step, shift_all}
use Rattle.psu_lex.proofs.numbers.shifted.Goals as goal

pub loop-i-preserved : goal.loop-i-preserved
loop-i-preserved c = record {
  small = omega (arith, c.min-value.ensures);
  so_far = c.min-value.ensures ∙ ap (λ (z : ℕ). min (10 * z) (10 ^ 15)) c.loop-i.invariant.so_far ∙ shift_step (10 ^ 15) (c.args.value * 10 ^ c.loop-i.i)
      ∙ ap (λ (z : ℕ). min (10 ^ 15) z) (sym (power_step c.args.value c.loop-i.i));
}

pub returns : goal.returns
returns c = shift_all c.args.value c.args.power c.loop-i.i c.loop-i.value (omega (arith, c.min-i-end.ensures, c.loop-i-test.false)) c.loop-i.invariant.so_far
