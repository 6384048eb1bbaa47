use Rattle.std.proofs.Common.{◌≡◌, ◌<◌, ◌^◌, drop, true}
use Rattle.psu_lex.specs.Bytes.{value_after, all_digits}
use Rattle.psu_lex.proofs.pieces.decimal.Given as goal

abbrev pub invariant-loop-digit : goal.invariant-loop-digit
invariant-loop-digit l = record {
  so_far : value_after l.value (drop l.digit-index l.digits) ≡ value_after 0 l.digits;
  small : l.value < 10 ^ l.digit-index;
  each : all_digits (drop l.digit-index l.digits) ≡ true;
}
