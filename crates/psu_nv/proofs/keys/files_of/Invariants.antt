use Rattle.std.proofs.Common.{◌≡◌, take}
use Rattle.psu_nv.specs.Decoding.{files_in}
use Rattle.psu_nv.proofs.keys.files_of.Given as goal

abbrev pub invariant-loop-pair : goal.invariant-loop-pair
invariant-loop-pair g l = l.files ≡ files_in (take l.pair-index l.pair-items)
