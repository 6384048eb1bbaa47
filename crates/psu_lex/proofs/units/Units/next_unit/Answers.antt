use Rattle.std.proofs.Common.{arith}
use Rattle.psu_lex.proofs.UnitScans.{ends_through}
use Rattle.psu_lex.proofs.units.Units.next_unit.Goals as goal

pub returns-in-Some-clause-rest : goal.returns-in-Some-clause-rest
returns-in-Some-clause-rest c =
    ends_through c.args.self.now.text.now c.loop-self.self.text.now c.read.new.self.text.now c.loop-self.invariant.rest c.read.ensures.rest

pub loop-self-preserved : goal.loop-self-preserved
loop-self-preserved c = record {
  units = λ units m. c.loop-self.invariant.units units (c.in_default.ensures.none units m);
  rest = ends_through c.args.self.now.text.now c.loop-self.self.text.now c.read.new.self.text.now c.loop-self.invariant.rest c.read.ensures.rest;
  length = omega (arith, c.loop-self.invariant.length, c.read.ensures.less);
}
