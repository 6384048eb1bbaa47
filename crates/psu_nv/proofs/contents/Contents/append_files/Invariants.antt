use Rattle.std.proofs.Common.{◌≡◌, ◌++◌, take, map}
use Rattle.psu_nv.specs.Contents.{file_item}
use Rattle.psu_nv.proofs.Encoding.{prefix}
use Rattle.psu_nv.proofs.contents.Contents.append_files.Given as goal

abbrev pub invariant-loop-pair : goal.invariant-loop-pair
invariant-loop-pair g l = l.items ≡ prefix l.self ++ map file_item (take l.pair-index l.pair-items)
