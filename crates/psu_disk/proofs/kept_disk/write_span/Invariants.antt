use Rattle.std.proofs.Common.{◌-◌, ◌≡◌, ℕ, ◌<◌, ◌≤◌, false}
use Rattle.psu_disk.specs.Disk.{IsCrashImage, Elapses}
use Rattle.psu_disk.specs.Medium.{NoneMore}
use Rattle.psu_disk.proofs.kept_disk.write_span.Given as goal

abbrev pub invariant-loop-at : goal.invariant-loop-at
invariant-loop-at g l = record {
  from : l.span.low ≤ l.at;
  extent : g.M.Medium.extent l.medium ≡ g.M.Medium.extent l.fn.medium;
  state : g.M.Medium.honest → g.M.Medium.state l.medium ≡ g.M.Medium.state l.fn.medium;
  none_more : g.M.Medium.honest → NoneMore (g.M.Medium.forgotten l.fn.medium) (g.M.Medium.forgotten l.medium);
  works : g.M.Medium.works l.fn.medium → g.M.Medium.works l.medium;
  known : g.M.Medium.honest → (k : ℕ) → l.span.low ≤ k → k < l.at → g.M.Medium.forgotten l.medium k ≡ false;
  time : g.M.Medium.honest → g.M.Medium.records → Elapses (g.M.Medium.moment l.fn.medium) (g.M.Medium.moment l.medium) (g.M.Medium.left_since l.fn.medium) (g.M.Medium.left_since l.medium) (IsCrashImage (g.M.Medium.state l.fn.medium));
}

abbrev pub decreases-loop-at : goal.decreases-loop-at
decreases-loop-at g l = l.span.high - l.at
