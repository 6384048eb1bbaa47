use Rattle.std.proofs.Common.{◌≡◌, ◌++◌, drop}
use Rattle.psu_lex.specs.Number.{without_zeros}
use Rattle.psu_lex.proofs.numbers.significant.Given as goal

abbrev pub invariant-loop-at : goal.invariant-loop-at
invariant-loop-at l = without_zeros (drop l.at (l.whole ++ l.fraction)) ≡ without_zeros (l.whole ++ l.fraction)
