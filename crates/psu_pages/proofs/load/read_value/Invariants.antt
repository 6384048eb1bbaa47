use Rattle.std.proofs.Common.{◌≡◌, ℕ, List, take}
use Rattle.psu_disk.specs.Disk.{IsCrashImage, LeavesOnly}
use Rattle.psu_pages.specs.Image.{bytes_in}
use Rattle.psu_pages.proofs.load.read_value.Given as goal

abbrev pub invariant-loop-page : goal.invariant-loop-page
invariant-loop-page g l =
    let d = g.D.Disk in
    record {
      extent : d.extent l.disk ≡ d.extent l.fn.disk;
      works : d.failures l.disk ≡ d.failures l.fn.disk;
      found : d.honest → l.value.items ≡ bytes_in (d.state l.fn.disk).bytes (take l.page-index l.page-items);
      seen : d.honest → (d.state l.disk).bytes ≡ (d.state l.fn.disk).bytes;
      left : d.honest → (x : List ℕ) → IsCrashImage (d.state l.disk) x → IsCrashImage (d.state l.fn.disk) x;
      time : d.honest → d.records → LeavesOnly d.moment d.left_since l.fn.disk l.disk (IsCrashImage (d.state l.fn.disk));
    }
