use Rattle.std.proofs.Common.{◌≤◌, List, [], length}
use Rattle.psu_lex.specs.Message.{EndsIn, MakesUnits, Part}
use Rattle.psu_lex.proofs.units.Units.next_unit.Given as goal

-- the units of what is left are those that were left at first
abbrev pub invariant-loop-self : goal.invariant-loop-self
invariant-loop-self l = record {
  units : (units : List Part) → MakesUnits l.self.first [] l.self.text.now units → MakesUnits l.initial.self.first [] l.initial.self.text.now units;
  rest : EndsIn l.initial.self.text.now l.self.text.now;
  length : length l.self.text.now ≤ length l.initial.self.text.now;
}

abbrev pub decreases-loop-self : goal.decreases-loop-self
decreases-loop-self l = length l.self.text.now
