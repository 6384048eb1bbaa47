use Rattle.std.proofs.Common.{◌≡◌, ◌≤◌, ◌<◌, ◌+◌, ℕ, length, take, vec_len, vec_capacity}
use Rattle.std.specs.List.{AllByRecursion}
use Rattle.psu_pages.specs.Outcome.{HasSameRoots}
use Rattle.psu_items.specs.Layout.{heads_of, slots_of, AreSlots, HaveStanding}
use Rattle.psu_pages.specs.Free.{is_free}
use Rattle.psu_pages.specs.Image.{IsNone, taken}
use Rattle.psu_map.specs.Target.{aimed}
use Rattle.psu_items.proofs.layout.fill.Given as goal

-- the items so far have their slots
abbrev pub invariant-loop-entry : goal.invariant-loop-entry
invariant-loop-entry g l = record {
  slots : AreSlots l.pages (let aim = l.target in aim.before) (aimed l.target) (take l.entry-index (aimed l.target)) (slots_of l.layout);
  standing : HaveStanding (take l.entry-index (let aim = l.target in aim.entries)) (let p = l.fn.pages in p.heads.items) (slots_of l.layout);
  roots : HasSameRoots l.fn.pages l.pages;
  claims : (page : ℕ) → IsNone (taken (heads_of (slots_of l.layout))) page → is_free (let p = l.pages in p.free) page ≡ is_free (let p = l.fn.pages in p.free) page;
  there : AllByRecursion (λ (place : ℕ). place < length (let o = l.layout in o.heads.items)) (let o = l.layout in o.unwritten.items);
  heads_room : vec_len (let o = l.layout in o.heads) + length (let aim = l.target in aim.entries) ≤ vec_capacity (let o = l.layout in o.heads) + l.entry-index;
  places_room : vec_len (let o = l.layout in o.unwritten) + length (let aim = l.target in aim.entries) ≤ vec_capacity (let o = l.layout in o.unwritten) + l.entry-index;
}
