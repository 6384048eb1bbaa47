use Rattle.psu_items.proofs.Fitting.{represents_within}
use Rattle.psu_items.proofs.laws.maps_keep_the_limit.Goals as goal

pub returns : goal.returns
returns c = record { within = λ limit map image. represents_within image limit map }
