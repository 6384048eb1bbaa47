use Rattle.std.proofs.Common.{length}
use Rattle.psu_wire_tests.proofs.readings.are_readings.Given as goal

abbrev pub decreases-loop-unit : goal.decreases-loop-unit
decreases-loop-unit l = length l.units.text.now
