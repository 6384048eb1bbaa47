use Rattle.psu_pages.proofs.Encoding.{encodes_represents, either_represents}
use Rattle.psu_pages.proofs.laws.represents_what_it_encodes.Goals as goal

pub returns-clause-represents : goal.returns-clause-represents
returns-clause-represents c = encodes_represents

pub returns-clause-either : goal.returns-clause-either
returns-clause-either c = λ next version limit number before heads items target. either_represents next version limit number before items heads target
