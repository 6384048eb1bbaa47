use Rattle.std.proofs.Common.{ℕ, List, length}
use Rattle.psu_hislip.proofs.Cuts.{CutSoFar}
use Rattle.psu_hislip.proofs.answer.cut.Given as goal

abbrev pub invariant-loop-rest : goal.invariant-loop-rest
invariant-loop-rest g l = (full : List (List ℕ)) × CutSoFar l.size l.id l.bytes l.rest l.frames.items full

abbrev pub decreases-loop-rest : goal.decreases-loop-rest
decreases-loop-rest g l = length l.rest
