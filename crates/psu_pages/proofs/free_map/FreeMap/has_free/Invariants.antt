use Rattle.std.proofs.Common.{◌≡◌, ◌+◌, length, take}
use Rattle.psu_pages.specs.Free.{free_pages}
use Rattle.psu_pages.proofs.free_map.FreeMap.has_free.Given as goal

abbrev pub invariant-loop-free : goal.invariant-loop-free
invariant-loop-free g l = l.wanted + length (free_pages (take l.free-index l.free-items)) ≡ l.count
