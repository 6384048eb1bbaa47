use Rattle.std.proofs.Common.{sym, ◌∙◌, [], refl}
use Rattle.std.proofs.lemmas.Bool.{eqb-true}
use Rattle.psu_messages.proofs.Places.{none_left}
use Rattle.psu_messages.proofs.cursor.take_unit.Goals as goal

pub returns-then-is_empty-clause-none : goal.returns-then-is_empty-clause-none
returns-then-is_empty-clause-none c = none_left c.args.units.now.first c.args.units.now.text.now (eqb-true _ 0 (sym c.is_empty.ensures ∙ c.if-is_empty.true))

pub returns-then-is_empty-clause-rest : goal.returns-then-is_empty-clause-rest
returns-then-is_empty-clause-rest c = ([], refl)
