use Rattle.std.proofs.Common.{sym, ◌∙◌}
use Rattle.psu_lex.proofs.Searches.{string_in}
use Rattle.psu_lex.proofs.pieces.whole_end.Goals as goal

pub returns-then-is_quote-clause-some : goal.returns-then-is_quote-clause-some
returns-then-is_quote-clause-some c =
    string_in c.args.bytes.now c.in-Some.rest.now c.in-Some.field-0-0.now _ c.in-Some.ensures.cases.0
    c.if-first-eq35.false (sym c.is_quote.ensures ∙ c.if-is_quote.true) c.in_ok-string_end.ensures.some
