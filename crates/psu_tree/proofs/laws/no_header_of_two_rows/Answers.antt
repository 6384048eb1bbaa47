use Rattle.psu_tree.proofs.Apart.{table_apart}
use Rattle.psu_tree.proofs.laws.no_header_of_two_rows.Goals as goal

pub returns : goal.returns
returns c = table_apart
