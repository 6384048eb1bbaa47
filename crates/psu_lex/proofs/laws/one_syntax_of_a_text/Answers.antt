use Rattle.psu_lex.proofs.UnitParts.{one_syntax}
use Rattle.psu_lex.proofs.laws.one_syntax_of_a_text.Goals as goal

pub returns : goal.returns
returns c = one_syntax
