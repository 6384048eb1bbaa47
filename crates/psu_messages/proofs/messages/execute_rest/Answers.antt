use Rattle.std.proofs.Common.{◌≡◌, ◌≤◌, ◌∙◌, ap, arith, false, subst, sym, List, ℕ}
use Rattle.psu_messages.specs.Executions.{IsOver}
use Rattle.psu_messages.specs.Places.{IsCursor, IsSavedPlace}
use Rattle.psu_messages.specs.Shown.{progress_of}
use Rattle.psu_messages.specs.Units.{Text}
use Rattle.psu_messages.proofs.Cursors.{some_kept, some_later}
use Rattle.psu_messages.proofs.messages.execute_rest.Goals as goal
use Rattle.psu_messages.proofs.messages.execute_rest.Goals.{then-is_some, else-is_some}

pub returns-clause-over : goal.returns-clause-over
returns-clause-over g c = λ none.
    subst (λ (bytes : List ℕ). IsOver (Text bytes) (progress_of c.execute_units.new.progress)) (ap (λ t. t.now) c.pass_to.ensures.text ∙ c.cursor-cursor.ensures.text) (c.in_ok-need.ensures.over none)

pub returns-clause-kept : goal.returns-clause-kept
returns-clause-kept g c =
    let text : c.pass_to.new.self.text.now ≡ c.args.bytes.now = ap (λ t. t.now) c.pass_to.ensures.text ∙ c.cursor-cursor.ensures.text in
    let at : IsCursor false c.pass_to.new.self = c.pass_to.ensures.place (c.cursor-cursor.ensures.place false c.requires.kept) in
    elim c.if-is_some.branch [
      | then-is_some w ↦
          subst (IsSavedPlace false c.args.bytes.now) (sym w.place-is)
          (w.advance_to-then-is_some.ensures.place false c.args.bytes.now
          (w.advance_to.ensures.place false c.args.bytes.now c.requires.kept (some_kept c.save_between-begun.result c.pass_to.new.self c.args.bytes.now text at c.save_between-begun.ensures.place))
          (some_kept w.save_between-reached.result c.execute_units.new.cursor c.args.bytes.now (ap (λ t. t.now) c.in_ok-need.ensures.text ∙ text) (c.in_ok-need.ensures.place (sym c.is_some.ensures ∙ w.if-is_some.true)) w.save_between-reached.ensures.place))
      | else-is_some w ↦ subst (IsSavedPlace false c.args.bytes.now) (sym w.place-is) c.requires.kept
    ]

pub returns-clause-done : goal.returns-clause-done
returns-clause-done g c =
    elim c.if-is_some.branch [
      | then-is_some w ↦
          subst (λ (place : _). place.read ≤ c.execute_units.new.progress.units) (sym w.place-is)
          (w.advance_to-then-is_some.ensures.read c.execute_units.new.progress.units
          (w.advance_to.ensures.read c.execute_units.new.progress.units (omega (arith, c.requires.done, c.execute_units.ensures.grows))
          (some_later c.save_between-begun.result c.args.progress.now.units c.execute_units.new.progress.units c.execute_units.ensures.grows c.save_between-begun.ensures.read))
          w.save_between-reached.ensures.read)
      | else-is_some w ↦ subst (λ (place : _). place.read ≤ c.execute_units.new.progress.units) (sym w.place-is) (omega (arith, c.requires.done, c.execute_units.ensures.grows))
    ]
