use Rattle.psu_lex.proofs.NumberFound.{one_value}
use Rattle.psu_lex.proofs.laws.one_value_of_a_text.Goals as goal

pub returns : goal.returns
returns c = one_value
