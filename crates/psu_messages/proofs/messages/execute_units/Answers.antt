use Rattle.std.proofs.Common.{◌∙◌, false, arith, ap, subst, sym}
use Rattle.psu_lex.specs.Message.{part}
use Rattle.psu_messages.specs.Places.{IsCursor}
use Rattle.psu_messages.specs.Shown.{progress_of, inside_of}
use Rattle.psu_messages.specs.Units.{Text}
use Rattle.psu_messages.proofs.Cursors.{continues, is_back, none_behind, unit_is}
use Rattle.psu_messages.proofs.Going.{behind, passed_on, stops_on}
use Rattle.psu_messages.proofs.Outside.{asks_at, behind_out, closed, closes, ends_all}
use Rattle.psu_messages.proofs.messages.execute_units.Goals as goal
use Rattle.psu_messages.proofs.messages.execute_units.Goals.{then-at_root, else-at_root}

pub returns-in_err-turn-clause-stops : goal.returns-in_err-turn-clause-stops
returns-in_err-turn-clause-stops g c =
    let unit = unit_is false c.units.cursor c.units.invariant.place c.take_unit.new.units c.in-Some.unit c.request.new.request c.request.new.self
    c.in-Some.ensures.some c.take_unit.ensures.rest c.in-Some.ensures.less c.request.ensures.request c.request.ensures.text c.request.ensures.units c.request.ensures.read in
    let asks = asks_at c.args.cursor.now.text.now c.units.progress.units c.units.cursor (part c.in-Some.unit) c.request.new.request (ap (λ t. t.now) c.units.invariant.text) c.units.invariant.read unit in
    passed_on c.from_residual.result c.in_err-turn.field-0.0 _ c.from_residual.ensures.1 (stops_on c.units.invariant.advances (c.in_err-turn.ensures.stops (Text c.args.cursor.now.text.now) asks))

pub returns-in-Some-turn-clause-advances : goal.returns-in-Some-turn-clause-advances
returns-in-Some-turn-clause-advances g c =
    let unit = unit_is false c.units.cursor c.units.invariant.place c.take_unit.new.units c.in-Some.unit c.request.new.request c.request.new.self
    c.in-Some.ensures.some c.take_unit.ensures.rest c.in-Some.ensures.less c.request.ensures.request c.request.ensures.text c.request.ensures.units c.request.ensures.read in
    let asks = asks_at c.args.cursor.now.text.now c.units.progress.units c.units.cursor (part c.in-Some.unit) c.request.new.request (ap (λ t. t.now) c.units.invariant.text) c.units.invariant.read unit in
    behind g.F.Executor.relations.does (Text c.args.cursor.now.text.now) c.args.executor.now c.units.executor c.take_turn.new.executor _ _ _ c.units.invariant.advances (c.in_ok-turn.ensures.advances (Text c.args.cursor.now.text.now) asks)

pub returns-in-Some-turn-clause-place : goal.returns-in-Some-turn-clause-place
returns-in-Some-turn-clause-place g c = λ some.
    let on : IsCursor false c.request.new.self = continues false c.units.cursor c.units.invariant.place c.take_unit.new.units c.in-Some.unit c.request.new.request c.request.new.self
    c.in-Some.ensures.some c.take_unit.ensures.rest c.in-Some.ensures.less c.request.ensures.request c.request.ensures.text c.request.ensures.units c.request.ensures.read in
    elim c.if-at_root.branch [
      | then-at_root w ↦
          subst (IsCursor false) (sym w.cursor-is)
          (is_back false c.units.cursor w.back_to.new.self c.units.invariant.place (w.back_to.ensures.text ∙ c.request.ensures.text) w.back_to.ensures.units
          (w.back_to.ensures.path ∙ sym (c.is_root-at_root.ensures w.if-at_root.true)) (omega (arith, w.back_to.ensures.read, c.request.ensures.read)))
      | else-at_root w ↦ subst (IsCursor false) (sym w.cursor-is) on
    ]

pub units-preserved : goal.units-preserved
units-preserved g c =
    let unit = unit_is false c.units.cursor c.units.invariant.place c.take_unit.new.units c.in-Some.unit c.request.new.request c.request.new.self
    c.in-Some.ensures.some c.take_unit.ensures.rest c.in-Some.ensures.less c.request.ensures.request c.request.ensures.text c.request.ensures.units c.request.ensures.read in
    let asks = asks_at c.args.cursor.now.text.now c.units.progress.units c.units.cursor (part c.in-Some.unit) c.request.new.request (ap (λ t. t.now) c.units.invariant.text) c.units.invariant.read unit in
    record {
      place = continues false c.units.cursor c.units.invariant.place c.take_unit.new.units c.in-Some.unit c.request.new.request c.request.new.self
          c.in-Some.ensures.some c.take_unit.ensures.rest c.in-Some.ensures.less c.request.ensures.request c.request.ensures.text c.request.ensures.units c.request.ensures.read;
      text = c.request.ensures.text ∙ c.units.invariant.text;
      read = omega (arith, c.request.ensures.read, c.units.invariant.read, c.in_ok-turn.ensures.units c.in_default-turn.is);
      advances = behind g.F.Executor.relations.does (Text c.args.cursor.now.text.now) c.args.executor.now c.units.executor c.take_turn.new.executor _ _ _ c.units.invariant.advances (c.in_ok-turn.ensures.advances (Text c.args.cursor.now.text.now) asks);
      grows = omega (arith, c.units.invariant.grows, c.take_turn.ensures.grows);
    }

pub returns-clause-advances : goal.returns-clause-advances
returns-clause-advances g c =
    let behind_all = behind_out c.args.cursor.now.text.now c.units.progress.units c.units.cursor (ap (λ t. t.now) c.units.invariant.text) c.units.invariant.read (none_behind false c.units.cursor c.units.invariant.place c.in_default.ensures.none) in
    let ends = ends_all c.args.cursor.now.text.now c.units.progress.units (inside_of c.units.progress.expansion) behind_all in
    behind g.F.Executor.relations.does (Text c.args.cursor.now.text.now) c.args.executor.now c.units.executor c.close.new.executor _ _ _ c.units.invariant.advances
    (closes g.F.Executor.relations.does (Text c.args.cursor.now.text.now) c.units.executor c.close.new.executor (progress_of c.units.progress) c.close.new.gathered ends c.in_ok-close.ensures.closes)

pub returns-clause-over : goal.returns-clause-over
returns-clause-over g c = λ none. record {
  units = behind_out c.args.cursor.now.text.now c.units.progress.units c.units.cursor (ap (λ t. t.now) c.units.invariant.text) c.units.invariant.read (none_behind false c.units.cursor c.units.invariant.place c.in_default.ensures.none);
  sent = closed g.F.Executor.relations.does c.units.executor c.close.new.executor c.units.progress.gathered c.close.new.gathered c.in_ok-close.ensures.closes;
}
