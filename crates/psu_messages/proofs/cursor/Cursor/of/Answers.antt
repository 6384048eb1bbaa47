use Rattle.psu_messages.proofs.Places.{at_start}
use Rattle.psu_messages.proofs.cursor.Cursor.of.Goals as goal

pub returns-clause-place : goal.returns-clause-place
returns-clause-place c = λ inside. at_start inside c.args.text.now _ _ _ c.of.ensures.text c.of.ensures.first c.root.ensures
