use Rattle.std.proofs.Common.{◌≡◌, ◌≤◌, ℕ, List, length, drop}
use Rattle.psu_disk.specs.Disk.{IsCrashImage, LeavesOnly}
use Rattle.psu_map.specs.Capacity.{IsMapOf}
use Rattle.psu_pages.specs.Outcome.{HasSameHeads}
use Rattle.psu_items.specs.Image.{listed}
use Rattle.psu_items.proofs.read.read_items.Given as goal

-- the items of the heads from this place on are read
abbrev pub invariant-loop-at : goal.invariant-loop-at
invariant-loop-at g l =
    let d = g.D.Disk in
    let old = l.fn.pages in
    record {
      within : l.at ≤ length old.heads.items;
      extent : d.extent (let p = l.pages in p.disk) ≡ d.extent old.disk;
      works : d.failures (let p = l.pages in p.disk) ≡ d.failures old.disk;
      found : d.honest → IsMapOf l.items (listed (d.state old.disk).bytes (drop l.at old.heads.items));
      same : HasSameHeads old l.pages;
      standing : (let p = l.pages in p.standing) ≡ old.standing;
      seen : d.honest → (d.state (let p = l.pages in p.disk)).bytes ≡ (d.state old.disk).bytes;
      left : d.honest → (x : List ℕ) → IsCrashImage (d.state (let p = l.pages in p.disk)) x → IsCrashImage (d.state old.disk) x;
      time : d.honest → d.records → LeavesOnly d.moment d.left_since old.disk (let p = l.pages in p.disk) (IsCrashImage (d.state old.disk));
    }

abbrev pub decreases-loop-at : goal.decreases-loop-at
decreases-loop-at g l = l.at
