use Rattle.std.proofs.Common.{refl}
use Rattle.psu_messages.proofs.Places.{at_start}
use Rattle.psu_messages.proofs.cursor.SavedPlace.start.Goals as goal

pub returns-clause-place : goal.returns-clause-place
returns-clause-place g c = λ inside bytes size. (bytes, size, at_start inside bytes bytes _ _ refl refl c.root.ensures)
