use Rattle.std.proofs.Common.{◌≤◌, Bool, true}
use Rattle.psu_lex.specs.SyntaxScan.{Reaches}
use Rattle.psu_lex.proofs.headers.name_end.Given as goal

abbrev pub invariant-loop-end : goal.invariant-loop-end
invariant-loop-end l = record {
  low : l.at ≤ l.end;
  reaches : (several : Bool) → Reaches several true l.text l.at → Reaches several true l.text l.end;
}
