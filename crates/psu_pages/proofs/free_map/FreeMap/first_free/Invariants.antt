use Rattle.std.proofs.Common.{◌≡◌, ◌<◌, length, take}
use Rattle.psu_pages.specs.Free.{free_pages}
use Rattle.psu_pages.proofs.free_map.FreeMap.first_free.Given as goal

abbrev pub invariant-loop-page : goal.invariant-loop-page
invariant-loop-page g l = record {
  first : l.pages.items ≡ take l.count (free_pages (take l.page l.free-items));
  few : length l.pages.items < l.count;
}
