use Rattle.std.proofs.Common.{◌≡◌, ◌*◌, take, drop}
use Rattle.psu_disk.specs.Disk.{IsCrashImage, Follows, LeavesOnly}
use Rattle.psu_pages.specs.Spelling.{value_drafts}
use Rattle.psu_pages.specs.Writing.{Misses, Reaches, AreWritten}
use Rattle.psu_pages.proofs.writing.write_value.Given as goal

abbrev pub invariant-loop-page : goal.invariant-loop-page
invariant-loop-page g l =
    let d = g.D.Disk in
    record {
      extent : d.extent l.disk ≡ d.extent l.fn.disk;
      works : d.failures l.disk ≡ d.failures l.fn.disk;
      rest : l.rest ≡ drop (512 * l.page-index) l.value;
      written : d.honest → AreWritten (value_drafts (take l.page-index l.pages) l.value) (d.state l.disk).bytes;
      seen : d.honest → Misses l.pages (d.state l.fn.disk).bytes (d.state l.disk).bytes;
      left : d.honest → Follows (Misses l.pages) (IsCrashImage (d.state l.fn.disk)) (IsCrashImage (d.state l.disk));
      time : d.honest → d.records → LeavesOnly d.moment d.left_since l.fn.disk l.disk (Reaches (Misses l.pages) (IsCrashImage (d.state l.fn.disk)));
    }
