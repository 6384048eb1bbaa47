use Rattle.std.proofs.Common.{◌≡◌, ◌≤◌, ◌^◌, min, take}
use Rattle.psu_lex.specs.Bytes.{value_after}
use Rattle.psu_lex.proofs.numbers.appended.Given as goal

abbrev pub invariant-loop-digit : goal.invariant-loop-digit
invariant-loop-digit l = record {
  small : l.value ≤ 10 ^ 15;
  so_far : l.value ≡ min (10 ^ 15) (value_after l.fn.value (take l.digit-index l.digits));
}
