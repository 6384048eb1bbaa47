use Rattle.std.proofs.Common.{◌≡◌, ℕ, List, drop}
use Rattle.std.specs.List.{AllByRecursion}
use Rattle.psu_disk.specs.Disk.{IsCrashImage, Follows, LeavesOnly}
use Rattle.psu_pages.specs.Image.{Head}
use Rattle.psu_pages.specs.Outcome.{EncodesPages, IsPlanned, HasSameHeads}
use Rattle.psu_pages.specs.Shown.{items_in}
use Rattle.psu_pages.specs.Writing.{Reaches}
use Rattle.psu_items.specs.Writing.{SameAfterPool}
use Rattle.psu_items.specs.Layout.{slots_from, slots_of, StandsWritten}
use Rattle.psu_map.specs.Target.{aimed}
use Rattle.psu_items.proofs.put.write_heads.Given as goal

-- all new heads are written but those at the places that remain; each possible crash image encodes the items from
-- before
abbrev pub invariant-loop-place : goal.invariant-loop-place
invariant-loop-place g l =
    let d = g.D.Disk in
    let old = l.fn.pages in
    record {
      extent : d.extent (let p = l.pages in p.disk) ≡ d.extent old.disk;
      works : d.failures (let p = l.pages in p.disk) ≡ d.failures old.disk;
      same : HasSameHeads old l.pages;
      standing : (let p = l.pages in p.standing) ≡ old.standing;
      planned : (other : Head) → IsPlanned old other → IsPlanned l.pages other;
      stands : d.honest → AllByRecursion (StandsWritten (d.state old.disk).bytes (aimed l.target)) (slots_of l.layout)
          → AllByRecursion (StandsWritten (d.state (let p = l.pages in p.disk)).bytes (aimed l.target)) (slots_from {A = g.row.A.Denot} 0 (let o = l.layout in o.heads.items) (drop l.place-index (let o = l.layout in o.unwritten.items)));
      shown : d.honest → items_in (let p = l.pages in p.root) (d.state (let p = l.pages in p.disk)).bytes ≡ items_in old.root (d.state old.disk).bytes;
      left : d.honest → (image : List ℕ) → IsCrashImage (d.state (let p = l.pages in p.disk)) image → EncodesPages old image;
      time : d.honest → d.records → LeavesOnly d.moment d.left_since old.disk (let p = l.pages in p.disk) (EncodesPages old);
      after_pool : d.honest → Follows (SameAfterPool old.limit) (IsCrashImage (d.state old.disk)) (IsCrashImage (d.state (let p = l.pages in p.disk)));
      after_pool_time : d.honest → d.records → LeavesOnly d.moment d.left_since old.disk (let p = l.pages in p.disk) (Reaches (SameAfterPool old.limit) (IsCrashImage (d.state old.disk)));
    }
