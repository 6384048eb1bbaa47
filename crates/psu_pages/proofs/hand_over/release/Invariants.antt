use Rattle.std.proofs.Common.{true, take}
use Rattle.psu_pages.specs.Free.{Marks}
use Rattle.psu_pages.specs.Image.{taken}
use Rattle.psu_pages.proofs.hand_over.release.Given as goal

abbrev pub invariant-loop-head : goal.invariant-loop-head
invariant-loop-head g l = Marks true (taken (take l.head-index l.heads)) l.fn.free l.free
