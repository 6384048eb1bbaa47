use Rattle.std.proofs.Common.{sym, ◌∙◌}
use Rattle.psu_lex.proofs.UnitParts.{given_fault, given_high, given_read, given_unread}
use Rattle.psu_lex.proofs.syntaxes.syntax.Goals as goal

pub returns-in-Some : goal.returns-in-Some
returns-in-Some c = given_fault c.args.unit.now.fault c.args.unit.now.text.now c.in-Some.fault c.error.result c.in-Some.is c.error.ensures

pub returns-in-Some-cut : goal.returns-in-Some-cut
returns-in-Some-cut c =
    let found = c.in-Some-cut.ensures.some in
    given_read c.args.unit.now.fault c.args.unit.now.text.now c.in-Some-cut.syntax found.0 c.in_default.is found.1 found.2

pub returns-then-has_high : goal.returns-then-has_high
returns-then-has_high c =
    let high = c.has_high.ensures in
    given_high c.args.unit.now.fault c.args.unit.now.text.now high.0 c.in_default.is high.1 (sym high.2 ∙ c.if-has_high.true)

pub returns : goal.returns
returns c =
    let high = c.has_high.ensures in
    given_unread c.args.unit.now.fault c.args.unit.now.text.now high.0 c.in_default.is high.1 (sym high.2 ∙ c.if-has_high.false) c.in_default-cut.ensures.none
