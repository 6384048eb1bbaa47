use Rattle.std.proofs.Common.{◌≡◌, true, false}
use Rattle.std.specs.List.{AllByRecursion}
use Rattle.psu_pages.specs.Image.{taken, AreApart}
use Rattle.psu_pages.specs.Outcome.{IsPlanned, HasSameRoots}
use Rattle.psu_items.specs.Layout.{heads_of, slots_of, IsOneOf}
use Rattle.psu_items.specs.Standing.{AreSpare}
use Rattle.psu_items.proofs.layout.release.Given as goal

-- of the slots still in the layout, those that are new have planned pages, and no page is used twice
abbrev pub invariant-loop-head : goal.invariant-loop-head
invariant-loop-head g l = record {
  planned : AllByRecursion (λ slot. slot.is_new ≡ true → IsPlanned l.pages slot.head) (slots_of l.layout);
  apart : AreApart (taken (heads_of (slots_of l.layout)));
  roots : HasSameRoots l.fn.pages l.pages;
  kept : AllByRecursion (λ slot. slot.is_new ≡ false → IsOneOf (let p = l.pages in p.heads.items) slot.head) (slots_of l.layout);
  spare : AreSpare l.fn.pages (taken (let p = l.fn.pages in p.heads.items)) (taken (heads_of (slots_of l.fn.layout))) → AreSpare l.pages (taken (let p = l.pages in p.heads.items)) (taken (heads_of (slots_of l.layout)));
}

abbrev pub decreases-loop-head : goal.decreases-loop-head
decreases-loop-head g l = goal.left-loop-head g l
