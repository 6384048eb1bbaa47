use Rattle.psu_lex.proofs.PieceScans.{one_datum}
use Rattle.psu_lex.proofs.laws.one_content_of_a_datum.Goals as goal

pub returns : goal.returns
returns c = one_datum
