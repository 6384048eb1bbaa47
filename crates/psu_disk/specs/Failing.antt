-- Which calls of a failing disk fail, and how many have failed.
use Rattle.std.specs.Prelude.{ℕ, ◌+◌, ◌-◌, ◌^◌, ◌==◌, ◌&&◌, min, Bool}
use Rattle.psu_disk.specs.declared.disk.Disk.{Ghosts}
use Rattle.psu_disk.specs.declared.failing_disk.Failing.{Failing}
use Rattle.psu_disk.specs.declared.failing_disk.FailingDisk.{FailingDisk}
use Rattle.psu_disk.specs.declared.failing_disk.Failing.TheVariants.{Always, Once}

-- whether the next call fails, given how many calls are still passed on, and how many have failed
abbrev pub is_failing : Failing → ℕ → ℕ → Bool
is_failing Once passes failed = passes == 0 && failed == 0
is_failing Always passes failed = passes == 0

-- the count of calls that failed, below the disk or in it, which saturates at its maximum
abbrev pub failures_of : {D : Type 0} → Ghosts D → FailingDisk D → ℕ
failures_of d disk = min (d.failures disk.inner + disk.failed) (2 ^ 64 - 1)
