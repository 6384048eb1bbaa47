use Rattle.std.proofs.Common.{take}
use Rattle.psu_pages.specs.Image.{keys, IsNone}
use Rattle.psu_pages.proofs.checks.has_key.Given as goal

abbrev pub invariant-loop-head : goal.invariant-loop-head
invariant-loop-head g l = IsNone (keys (take l.head-index l.heads)) l.key
