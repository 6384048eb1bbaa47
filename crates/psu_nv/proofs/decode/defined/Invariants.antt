use Rattle.std.proofs.Common.{◌≡◌, take}
use Rattle.psu_nv.proofs.decode.defined.Given as goal

abbrev pub invariant-loop-written : goal.invariant-loop-written
invariant-loop-written g l = l.macros ≡ take l.written-index l.all
