use Rattle.std.proofs.Common.{◌≡◌, false, take}
use Rattle.psu_lex.specs.Scan.{has, stops}
use Rattle.psu_lex.proofs.message.plain_end.Given as goal

abbrev pub invariant-loop-at : goal.invariant-loop-at
invariant-loop-at l = has stops (take l.at l.text) ≡ false
