use Rattle.psu_lex.proofs.PieceScans.{one_string}
use Rattle.psu_lex.proofs.laws.one_content_of_a_string.Goals as goal

pub returns : goal.returns
returns c = one_string
