use Rattle.std.proofs.Common.{◌∙◌, is_some, true, arith, ap, refl}
use Rattle.psu_messages.proofs.Cursors.{continues, none_behind, unit_is}
use Rattle.psu_messages.proofs.Going.{behind, passed_on, stay, stops_on}
use Rattle.psu_messages.proofs.Inside.{inside_at, leaves_all}
use Rattle.psu_messages.proofs.Outside.{behind_out}
use Rattle.psu_messages.proofs.expansions.expand.Goals as goal

pub units-init : goal.units-init
units-init g c = record {
  place = c.pass_to.ensures.place (c.of-cursor.ensures.place true);
  text = ap (λ t. t.now) c.pass_to.ensures.text ∙ c.of-cursor.ensures.text;
  read = c.pass_to.ensures.count (omega (arith, c.of-cursor.ensures.read));
  advances = λ source units. stay g.F.Executor.relations.does source c.args.executor.now c.args.executor.now _ refl;
}

pub returns-in_err-step-clause-stops : goal.returns-in_err-step-clause-stops
returns-in_err-step-clause-stops g c =
    let next = inside_at c.args.body.now c.units.done c.units.cursor _ _ c.units.invariant.text c.units.invariant.read
    (unit_is true c.units.cursor c.units.invariant.place c.take_unit.new.units c.in-Some.unit c.request.new.request c.request.new.self
    c.in-Some.ensures.some c.take_unit.ensures.rest c.in-Some.ensures.less c.request.ensures.request c.request.ensures.text c.request.ensures.units c.request.ensures.read) in
    passed_on c.from_residual.result c.in_err-step.field-0.0 _ c.from_residual.ensures.1 (λ source units. stops_on (c.units.invariant.advances source units) (c.in_err-step.ensures.stops source units c.args.body.now c.units.done next))

pub returns-in-Some-step-clause-advances : goal.returns-in-Some-step-clause-advances
returns-in-Some-step-clause-advances g c = λ source units.
    let next = inside_at c.args.body.now c.units.done c.units.cursor _ _ c.units.invariant.text c.units.invariant.read
    (unit_is true c.units.cursor c.units.invariant.place c.take_unit.new.units c.in-Some.unit c.request.new.request c.request.new.self
    c.in-Some.ensures.some c.take_unit.ensures.rest c.in-Some.ensures.less c.request.ensures.request c.request.ensures.text c.request.ensures.units c.request.ensures.read) in
    let went = rw c.in-Some-step.is at c.in_ok-step.ensures.advances in
    behind g.F.Executor.relations.does source c.args.executor.now c.units.executor c.take_step.new.executor _ _ _ (c.units.invariant.advances source units) (went source units c.args.body.now c.units.done next)

pub units-preserved : goal.units-preserved
units-preserved g c =
    let next = inside_at c.args.body.now c.units.done c.units.cursor _ _ c.units.invariant.text c.units.invariant.read
    (unit_is true c.units.cursor c.units.invariant.place c.take_unit.new.units c.in-Some.unit c.request.new.request c.request.new.self
    c.in-Some.ensures.some c.take_unit.ensures.rest c.in-Some.ensures.less c.request.ensures.request c.request.ensures.text c.request.ensures.units c.request.ensures.read) in
    let went = rw c.in_default-step.is at c.in_ok-step.ensures.advances in
    record {
      place = continues true c.units.cursor c.units.invariant.place c.take_unit.new.units c.in-Some.unit c.request.new.request c.request.new.self
          c.in-Some.ensures.some c.take_unit.ensures.rest c.in-Some.ensures.less c.request.ensures.request c.request.ensures.text c.request.ensures.units c.request.ensures.read;
      text = ap (λ t. t.now) c.request.ensures.text ∙ c.units.invariant.text;
      read = omega (arith, c.request.ensures.read, c.units.invariant.read);
      advances = λ source units. behind g.F.Executor.relations.does source c.args.executor.now c.units.executor c.take_step.new.executor _ _ _ (c.units.invariant.advances source units) (went source units c.args.body.now c.units.done next);
    }

pub returns-clause-advances : goal.returns-clause-advances
returns-clause-advances g c = λ source units.
    behind g.F.Executor.relations.does source c.args.executor.now c.units.executor c.units.executor _ _ _ (c.units.invariant.advances source units)
    (leaves_all g.F.Executor.relations.does source c.units.executor units c.args.body.now c.units.done (is_some c.units.parked) c.units.gathered
    (behind_out c.args.body.now c.units.done c.units.cursor c.units.invariant.text c.units.invariant.read (none_behind true c.units.cursor c.units.invariant.place c.in_default.ensures.none)))
