use Rattle.std.proofs.Common.{refl}
use Rattle.psu_messages.proofs.Places.{at_same}
use Rattle.psu_messages.proofs.cursor.SavedPlace.cursor.Goals as goal

pub returns-clause-place : goal.returns-clause-place
returns-clause-place g c = λ inside kept.
    at_same inside c.args.text.now _ _ kept.0 _ _ _ _ _ refl (c.of_last.ensures.text kept.0 kept.2.ends kept.1) c.of_last.ensures.first c.restore.ensures kept.2
