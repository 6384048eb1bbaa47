use Rattle.std.proofs.Common.{length}
use Rattle.psu_wire_tests.proofs.syntaxes.begins.Given as goal

abbrev pub decreases-loop-unit : goal.decreases-loop-unit
decreases-loop-unit l = length l.units.text.now
