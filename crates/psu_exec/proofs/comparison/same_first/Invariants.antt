use Rattle.std.proofs.Common.{◌≡◌, take}
use Rattle.psu_exec.proofs.comparison.same_first.Given as goal

abbrev pub invariant-loop-i : goal.invariant-loop-i
invariant-loop-i g l = take l.i l.one ≡ take l.i l.other
