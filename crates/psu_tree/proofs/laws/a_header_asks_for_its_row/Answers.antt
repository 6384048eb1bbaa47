use Rattle.psu_tree.proofs.Apart.{table_found}
use Rattle.psu_tree.proofs.laws.a_header_asks_for_its_row.Goals as goal

pub returns : goal.returns
returns c = table_found
