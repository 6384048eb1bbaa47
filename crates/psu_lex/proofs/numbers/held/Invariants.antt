use Rattle.std.proofs.Common.{◌≡◌, ◌≤◌, ◌^◌, ◌++◌, take, min}
use Rattle.psu_lex.specs.Bytes.{value_after}
use Rattle.psu_lex.proofs.numbers.held.Given as goal

abbrev pub invariant-loop-at : goal.invariant-loop-at
invariant-loop-at l = record {
  small : l.value ≤ 10 ^ 15;
  so_far : l.value ≡ min (10 ^ 15) (value_after 0 (take l.at (l.whole ++ l.fraction)));
}
