use Rattle.std.proofs.Common.{map}
use Rattle.psu_examples.specs.Held.{IsFirstFault}
use Rattle.psu_examples.specs.Shown.{shown}
use Rattle.psu_examples.specs.declared.guide_fault.GuideFault.{GuideFault}
use Rattle.psu_examples.proofs.Judging.{each_one, first_fault, one_more, passed}
use Rattle.psu_examples.proofs.check.check_each.Goals as goal

pub returns-in_err-check_example-clause-refused : goal.returns-in_err-check_example-clause-refused
returns-in_err-check_example-clause-refused g c =
    passed c.from_residual.result c.in_err-check_example.field-0.0 (λ (fault : GuideFault _ _). IsFirstFault g.P.Player.plays g.P.Player.stops (map shown c.args.examples.now) fault) c.from_residual.ensures.1
    (first_fault g.P.Player.plays g.P.Player.stops c.args.examples.now c.loop-example.example-index c.example-item.result _ c.loop-example-test.true c.example-item.is
    c.loop-example.invariant c.in_err-check_example.ensures.refused)

pub loop-example-preserved : goal.loop-example-preserved
loop-example-preserved g c =
    one_more g.P.Player.plays c.args.examples.now c.loop-example.example-index c.example-item.result c.loop-example-test.true c.example-item.is
    c.loop-example.invariant c.in_ok-check_example.ensures.held

pub returns-clause-held : goal.returns-clause-held
returns-clause-held g c = each_one g.P.Player.plays c.args.examples.now c.loop-example.example-index c.loop-example-test.false c.loop-example.invariant
