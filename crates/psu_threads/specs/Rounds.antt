-- What the flusher notes of a round, and how long it sleeps after it at most.
use Rattle.std.specs.Prelude.{◌≡◌, ℕ, Bool, true, false, Option, Some, None, Result, Ok, Err}
use Rattle.psu_exec.specs.declared.job.NoJob.{NoJob}
use Rattle.psu_exec.specs.declared.job.NoJob.TheVariants.{Nothing, Memory}
use Rattle.psu_bench.specs.Lines.{condition_shown}
use Rattle.psu_bench.specs.Reopenings.{after_job}
use Rattle.psu_bench.specs.declared.caused.CausedByJob.{CausedByJob}
use Rattle.psu_bench.specs.declared.condition_lines.ReportedCondition.{ReportedCondition}
use Rattle.psu_bench.specs.declared.condition_lines.ReportedCondition.TheVariants.{Works, Broken}
use Rattle.psu_bench.specs.declared.flushing.JobEnding.{JobEnding}
use Rattle.psu_bench.specs.declared.flushing.JobEnding.TheVariants as ending
use Rattle.psu_bench.specs.declared.reopenings.Reopenings.{Reopenings}

-- How long the flusher sleeps at most after a job that ended so, in milliseconds: not at all where more is to be flushed, a
-- second where it did not go well, and until it is woken where all is stored.
abbrev pub pause_after : JobEnding → Bool → Option ℕ
pause_after ending.Stored false = None
pause_after ending.Stored true = Some 0
pause_after ending.Reopened has_work = Some 0
pause_after _ has_work = Some 1000

-- the condition that was shown last, after one that may be shown
abbrev pub shown_last : ReportedCondition → Option ReportedCondition → ReportedCondition
shown_last old None = old
shown_last old (Some shown) = shown

-- the same where there was no job: where there is nothing to do after the store broke, a reopening has found all stored
abbrev pub shown_without_job : ReportedCondition → NoJob → ReportedCondition
shown_without_job Broken Nothing = Works
shown_without_job old none = old

-- how long the flusher sleeps at most where there was no job: where memory was refused a second, else until it is woken
abbrev pub pause_without_job : NoJob → Option ℕ
pause_without_job Memory = Some 1000
pause_without_job none = None

-- What a round has shown is noted: how its job ended, at some time, or why there was none. The flusher sleeps so long
-- after it at most.
abbrev pub IsNoted : Result CausedByJob NoJob → Option ℕ → ReportedCondition → Reopenings → ReportedCondition → Reopenings → Type 0
IsNoted (Ok caused) pause condition reopenings condition' reopenings' =
    (pause ≡ pause_after caused.ending caused.has_work) × (condition' ≡ shown_last condition (condition_shown caused.ending))
    × ((now : ℕ) × (reopenings' ≡ after_job reopenings caused.ending now))
IsNoted (Err none) pause condition reopenings condition' reopenings' =
    (pause ≡ pause_without_job none) × (condition' ≡ shown_without_job condition none) × (reopenings' ≡ reopenings)
