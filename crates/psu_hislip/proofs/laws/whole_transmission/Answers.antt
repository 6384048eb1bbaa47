use Rattle.psu_hislip.proofs.Transmissions.{whole_transmission}
use Rattle.psu_hislip.proofs.laws.whole_transmission.Goals as goal

pub returns : goal.returns
returns c = λ origin payloads last. whole_transmission origin payloads last
