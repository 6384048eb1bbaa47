use Rattle.psu_tree.proofs.OneNumber.{table_one_number}
use Rattle.psu_tree.proofs.laws.one_number_of_a_header.Goals as goal

pub returns : goal.returns
returns c = table_one_number
