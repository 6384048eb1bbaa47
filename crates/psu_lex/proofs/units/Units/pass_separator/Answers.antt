use Rattle.std.proofs.Common.{sym, ◌∙◌, ◌≡◌, length}
use Rattle.std.proofs.lemmas.Bool.{eqb-false, eqb-true}
use Rattle.psu_lex.proofs.UnitScans.{ends_after, pass_none, pass_some}
use Rattle.psu_lex.proofs.units.Units.pass_separator.Goals as goal

pub returns-then-is_empty-clause-makes : goal.returns-then-is_empty-clause-makes
returns-then-is_empty-clause-makes c = λ text units blank m.
    pass_none c.args.self.now.first c.args.self.now.text.now text units (eqb-true _ 0 (sym c.is_empty.ensures ∙ c.if-is_empty.true)) m

pub returns-clause-makes : goal.returns-clause-makes
returns-clause-makes c = λ text units blank m.
    pass_some c.args.self.now.first c.is_first-self.result c.args.blank c.args.self.now.text.now c.after-self.result.now text units
    (eqb-false _ 0 (sym c.is_empty.ensures ∙ c.if-is_empty.false)) c.requires c.after-self.ensures c.is_first-self.ensures blank m

pub returns-clause-rest : goal.returns-clause-rest
returns-clause-rest c = ends_after 1 c.args.self.now.text.now c.after-self.result.now c.after-self.ensures
