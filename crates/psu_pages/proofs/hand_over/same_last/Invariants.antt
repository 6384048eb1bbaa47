use Rattle.std.proofs.Common.{◌≡◌, ◌-◌, length, drop}
use Rattle.psu_pages.specs.Image.{taken}
use Rattle.psu_pages.proofs.hand_over.same_last.Given as goal

abbrev pub invariant-loop-i : goal.invariant-loop-i
invariant-loop-i g l = taken (drop (length l.older - l.i) l.older) ≡ taken (drop (length l.heads - l.i) l.heads)
