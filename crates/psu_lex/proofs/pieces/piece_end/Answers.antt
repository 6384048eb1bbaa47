use Rattle.std.proofs.Common.{sym, ◌∙◌, ap}
use Rattle.psu_lex.specs.Bytes.{is_closed}
use Rattle.psu_lex.proofs.PieceScans.{none, unclosed}
use Rattle.psu_lex.proofs.pieces.piece_end.Goals as goal

pub returns-else-closes-clause-none : goal.returns-else-closes-clause-none
returns-else-closes-clause-none c =
    unclosed is_closed c.args.bytes.now _ c.in-Some.ensures.some (ap is_closed (sym c.after.ensures) ∙ sym c.closes.ensures ∙ c.if-closes.false)

pub returns-in-None-clause-none : goal.returns-in-None-clause-none
returns-in-None-clause-none c = λ more b _. none c.args.bytes.now more c.in-None.ensures.none b
