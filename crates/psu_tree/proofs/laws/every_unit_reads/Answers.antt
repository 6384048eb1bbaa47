use Rattle.psu_tree.proofs.SomeReading.{some_reading}
use Rattle.psu_tree.proofs.laws.every_unit_reads.Goals as goal

pub returns : goal.returns
returns c = some_reading c.every_unit_has_a_syntax.ensures
