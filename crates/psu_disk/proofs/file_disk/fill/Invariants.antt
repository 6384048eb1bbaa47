use Rattle.std.proofs.Common.{◌-◌, ◌≡◌, ◌≤◌, ℕ, List, false}
use Rattle.psu_disk.specs.FileCalls.{FileCall, AreFileCalls, AreZeros}
use Rattle.psu_disk.proofs.file_disk.fill.Given as goal

-- So far zeros were written into each byte before `at`.
abbrev pub invariant-loop-at : goal.invariant-loop-at
invariant-loop-at g l = record {
  within : l.at ≤ l.size;
  size : l.size ≡ g.F.FileCalls.extent l.file;
  extent : g.F.FileCalls.extent l.file ≡ g.F.FileCalls.extent l.fn.file;
  zeros : (calls : List FileCall) × AreFileCalls g.F.FileCalls.made calls l.fn.file l.file × AreZeros 0 l.at calls;
  known : g.F.FileCalls.keeps → ((k : ℕ) → g.F.FileCalls.forgotten l.fn.file k ≡ false) → (k : ℕ) → g.F.FileCalls.forgotten l.file k ≡ false;
}

abbrev pub decreases-loop-at : goal.decreases-loop-at
decreases-loop-at g l = l.size - l.at
