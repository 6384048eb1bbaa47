use Rattle.std.proofs.Common.{◌≡◌, ◌≤◌, ◌^◌, ◌*◌, min}
use Rattle.psu_lex.proofs.numbers.shifted.Given as goal

abbrev pub invariant-loop-i : goal.invariant-loop-i
invariant-loop-i l = record {
  small : l.value ≤ 10 ^ 15;
  so_far : l.value ≡ min (10 ^ 15) (l.initial.value * 10 ^ l.i);
}
