use Rattle.std.proofs.Common.{◌≤◌, List, [], Bool, ◌-◌, length, take, drop}
use Rattle.psu_lex.specs.Message.{MakesUnits, Part}
use Rattle.psu_lex.proofs.message.unit_end.Given as goal

abbrev pub invariant-pieces : goal.invariant-pieces
invariant-pieces l = record {
  within : l.at ≤ length l.bytes;
  so_far : (first : Bool) (units : List Part) → MakesUnits first (take l.at l.bytes) (drop l.at l.bytes) units → MakesUnits first [] l.bytes units;
}

abbrev pub decreases-pieces : goal.decreases-pieces
decreases-pieces l = length l.bytes - l.at
