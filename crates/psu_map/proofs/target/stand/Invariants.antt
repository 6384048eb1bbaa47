use Rattle.std.proofs.Common.{◌≡◌, ◌++◌, map, take}
use Rattle.psu_map.specs.Target.{stand}
use Rattle.psu_map.proofs.target.stand.Given as goal

abbrev pub invariant-loop-pair : goal.invariant-loop-pair
invariant-loop-pair g l = l.entries.items ≡ l.initial.entries.items ++ map stand (take l.pair-index l.pairs)
