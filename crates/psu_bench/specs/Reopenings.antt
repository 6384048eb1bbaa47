-- When a store that broke is opened again. One that broke within a second of its reopening is opened a second after that.
use Rattle.std.specs.Prelude.{ℕ, ◌-◌, ◌==◌, if◌then◌else◌, Option, Some, None}
use Rattle.psu_bench.specs.declared.flushing.JobEnding.{JobEnding}
use Rattle.psu_bench.specs.declared.flushing.JobEnding.TheVariants as ending
use Rattle.psu_bench.specs.declared.reopenings.Reopenings.{Reopenings}

-- how many milliseconds it is until a second has passed since a time, if there is one; 0 once it has
abbrev pub left_of_second : Option ℕ → ℕ → ℕ
left_of_second None now = 0
left_of_second (Some since) now = 1000 - (now - since)

-- after the end of a job; noted is only a break within a second of the last reopening
abbrev pub after_job : Reopenings → JobEnding → ℕ → Reopenings
after_job r ending.Reopened now = record r { reopened = Some now }
after_job r ending.Broken now = if left_of_second r.reopened now == 0 then r else record r { broken = Some now }
after_job r _ now = r
