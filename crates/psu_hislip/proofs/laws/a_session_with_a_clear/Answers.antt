use Rattle.std.proofs.Common.{refl}
use Rattle.psu_hislip.proofs.SomeSession.{is_stretch}
use Rattle.psu_hislip.proofs.laws.a_session_with_a_clear.Goals as goal

pub returns-clause-stretch : goal.returns-clause-stretch
returns-clause-stretch c = is_stretch

pub returns-clause-good : goal.returns-clause-good
returns-clause-good c = refl

pub returns-clause-texts : goal.returns-clause-texts
returns-clause-texts c = refl
