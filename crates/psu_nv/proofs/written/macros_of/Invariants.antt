use Rattle.std.proofs.Common.{◌≤◌, length}
use Rattle.psu_nv.proofs.MacroBytes.{ReadSo}
use Rattle.psu_nv.proofs.written.macros_of.Given as goal

abbrev pub invariant-loop-rest : goal.invariant-loop-rest
invariant-loop-rest l = record { so : ReadSo l.bytes l.rest l.found.items; count : length l.found.items ≤ 32 }

abbrev pub decreases-loop-rest : goal.decreases-loop-rest
decreases-loop-rest l = length l.rest
