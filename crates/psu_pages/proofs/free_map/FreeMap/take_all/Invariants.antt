use Rattle.std.proofs.Common.{◌≡◌, ℕ, true, false, take}
use Rattle.std.specs.List.{AllByRecursion}
use Rattle.psu_pages.specs.Free.{is_free, Marks}
use Rattle.psu_pages.specs.Image.{AreApart}
use Rattle.psu_pages.proofs.free_map.FreeMap.take_all.Given as goal

abbrev pub invariant-loop-page : goal.invariant-loop-page
invariant-loop-page g l = record {
  were_free : AllByRecursion (λ (page : ℕ). is_free l.fn.self page ≡ true) (take l.page-index l.pages);
  apart : AreApart (take l.page-index l.pages);
  taken : Marks false (take l.page-index l.pages) l.fn.self l.self;
}
