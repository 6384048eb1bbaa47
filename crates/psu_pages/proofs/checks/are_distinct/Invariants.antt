use Rattle.std.proofs.Common.{take}
use Rattle.psu_pages.specs.Image.{keys, AreApart}
use Rattle.psu_pages.proofs.checks.are_distinct.Given as goal

abbrev pub invariant-loop-i : goal.invariant-loop-i
invariant-loop-i g l = AreApart (keys (take l.i l.heads))
