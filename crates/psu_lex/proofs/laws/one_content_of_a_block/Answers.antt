use Rattle.psu_lex.proofs.PieceScans.{one_block}
use Rattle.psu_lex.proofs.laws.one_content_of_a_block.Goals as goal

pub returns : goal.returns
returns c = one_block
