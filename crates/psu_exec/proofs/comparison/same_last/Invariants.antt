use Rattle.std.proofs.Common.{◌≡◌, ◌-◌, length, drop}
use Rattle.psu_exec.proofs.comparison.same_last.Given as goal

abbrev pub invariant-loop-i : goal.invariant-loop-i
invariant-loop-i g l = drop (length l.one - l.i) l.one ≡ drop (length l.other - l.i) l.other
