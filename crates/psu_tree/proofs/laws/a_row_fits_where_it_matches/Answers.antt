use Rattle.psu_tree.proofs.Matching.{same_match}
use Rattle.psu_tree.proofs.laws.a_row_fits_where_it_matches.Goals as goal

pub returns : goal.returns
returns c = same_match
