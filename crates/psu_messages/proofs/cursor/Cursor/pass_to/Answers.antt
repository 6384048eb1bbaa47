use Rattle.std.proofs.Common.{◌∙◌, arith}
use Rattle.psu_messages.proofs.Cursors.{ends_at, continues}
use Rattle.psu_messages.proofs.cursor.Cursor.pass_to.Goals as goal

pub returns-in_default-clause-place : goal.returns-in_default-clause-place
returns-in_default-clause-place c = λ here.
    ends_at c.args.inside c.loop-self.self (c.loop-self.invariant.place here) c.of_last-self.result c.args.count
    c.in_default.ensures.none (omega (arith, c.loop-self-test.true)) c.of_last-self.ensures.text c.of_last-self.ensures.first

pub loop-self-preserved : goal.loop-self-preserved
loop-self-preserved c = record {
  place = λ here.
      continues c.args.inside c.loop-self.self (c.loop-self.invariant.place here) c.take_unit.new.units c.in-Some.unit c.request.new.request c.request.new.self
      c.in-Some.ensures.some c.take_unit.ensures.rest c.in-Some.ensures.less c.request.ensures.request c.request.ensures.text c.request.ensures.units c.request.ensures.read;
  text = c.request.ensures.text ∙ c.loop-self.invariant.text;
  count = λ more. omega (arith, c.loop-self-test.true, c.request.ensures.read);
}
