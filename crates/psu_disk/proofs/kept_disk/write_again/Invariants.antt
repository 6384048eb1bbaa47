use Rattle.std.proofs.Common.{◌≡◌, ◌⊎◌, ℕ, true, false, drop}
use Rattle.psu_disk.specs.Disk.{IsCrashImage, Elapses}
use Rattle.psu_disk.specs.Medium.{NoneMore}
use Rattle.psu_disk.specs.Touched.{is_covered}
use Rattle.psu_disk.proofs.kept_disk.write_again.Given as goal

abbrev pub invariant-loop-span : goal.invariant-loop-span
invariant-loop-span g l = record {
  extent : g.M.Medium.extent l.medium ≡ g.M.Medium.extent l.fn.medium;
  state : g.M.Medium.honest → g.M.Medium.state l.medium ≡ g.M.Medium.state l.fn.medium;
  none_more : g.M.Medium.honest → NoneMore (g.M.Medium.forgotten l.fn.medium) (g.M.Medium.forgotten l.medium);
  works : g.M.Medium.works l.fn.medium → g.M.Medium.works l.medium;
  todo : g.M.Medium.honest → (k : ℕ) → is_covered l.spans k ≡ true → (is_covered (drop l.span-index l.spans) k ≡ true) ⊎ (g.M.Medium.forgotten l.medium k ≡ false);
  time : g.M.Medium.honest → g.M.Medium.records → Elapses (g.M.Medium.moment l.fn.medium) (g.M.Medium.moment l.medium) (g.M.Medium.left_since l.fn.medium) (g.M.Medium.left_since l.medium) (IsCrashImage (g.M.Medium.state l.fn.medium));
}
