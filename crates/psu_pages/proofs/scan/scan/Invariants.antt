use Rattle.std.proofs.Common.{◌≡◌, ℕ, List, length, map, take}
use Rattle.psu_disk.specs.Disk.{IsCrashImage, LeavesOnly}
use Rattle.psu_pages.specs.Image.{head_at}
use Rattle.psu_pages.specs.Finding.{AreFit}
use Rattle.psu_pages.proofs.scan.scan.Given as goal

abbrev pub invariant-loop-name : goal.invariant-loop-name
invariant-loop-name g l =
    let d = g.D.Disk in
    record {
      extent : d.extent l.disk ≡ d.extent l.fn.disk;
      works : d.failures l.disk ≡ d.failures l.fn.disk;
      many : length l.heads.items ≡ l.name-index;
      fit : AreFit l.limit l.heads.items l.free;
      found : d.honest → l.heads.items ≡ map (head_at (d.state l.fn.disk).bytes) (take l.name-index l.names);
      seen : d.honest → (d.state l.disk).bytes ≡ (d.state l.fn.disk).bytes;
      left : d.honest → (x : List ℕ) → IsCrashImage (d.state l.disk) x → IsCrashImage (d.state l.fn.disk) x;
      time : d.honest → d.records → LeavesOnly d.moment d.left_since l.fn.disk l.disk (IsCrashImage (d.state l.fn.disk));
    }
