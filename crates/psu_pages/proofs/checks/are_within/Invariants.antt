use Rattle.std.proofs.Common.{◌≡◌, ◌+◌, length, take}
use Rattle.psu_pages.specs.Image.{taken}
use Rattle.psu_pages.proofs.checks.are_within.Given as goal

abbrev pub invariant-loop-head : goal.invariant-loop-head
invariant-loop-head g l = l.left + length (taken (take l.head-index l.heads)) ≡ l.limit
