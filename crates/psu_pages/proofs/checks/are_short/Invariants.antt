use Rattle.std.proofs.Common.{◌≡◌, take}
use Rattle.psu_pages.specs.Image.{key_most, AreShort}
use Rattle.psu_pages.proofs.checks.are_short.Given as goal

abbrev pub invariant-loop-head : goal.invariant-loop-head
invariant-loop-head g l = (l.most ≡ key_most l.version) × AreShort l.version (take l.head-index l.heads)
