use Rattle.std.proofs.Common.{◌≤◌, ◌-◌, false, length}
use Rattle.psu_lex.specs.SyntaxScan.{Reaches}
use Rattle.psu_lex.proofs.headers.path_end.Given as goal

abbrev pub invariant-nodes : goal.invariant-nodes
invariant-nodes l = record {
  within : l.at ≤ length l.text;
  reaches : Reaches l.several false l.text l.at;
}

abbrev pub decreases-nodes : goal.decreases-nodes
decreases-nodes l = length l.text - l.at
