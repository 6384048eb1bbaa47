use Rattle.std.proofs.Common.{◌≡◌, take}
use Rattle.psu_pages.specs.Image.{taken}
use Rattle.psu_pages.proofs.hand_over.same_first.Given as goal

abbrev pub invariant-loop-i : goal.invariant-loop-i
invariant-loop-i g l = taken (take l.i l.older) ≡ taken (take l.i l.heads)
