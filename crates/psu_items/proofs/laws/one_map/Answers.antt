use Rattle.psu_items.proofs.Standing.{represents_one}
use Rattle.psu_items.proofs.laws.one_map.Goals as goal

pub returns : goal.returns
returns c = record { one = represents_one }
