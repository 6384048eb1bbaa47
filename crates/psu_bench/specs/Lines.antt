-- What an operator reads of the store's condition. At most one line is due a second. It names the latest condition, and says
-- how often the condition has changed since the line before it.
use Rattle.std.specs.Prelude.{◌≡◌, ◌<◌, ◌+◌, ◌-◌, ◌^◌, ℕ, min, Option, Some, None}
use Rattle.psu_bench.specs.declared.flushing.JobEnding.{JobEnding}
use Rattle.psu_bench.specs.declared.flushing.JobEnding.TheVariants as ending
use Rattle.psu_bench.specs.declared.condition_lines.ReportedCondition.{ReportedCondition}
use Rattle.psu_bench.specs.declared.condition_lines.ReportedCondition.TheVariants.{Works, Broken, Worn}
use Rattle.psu_bench.specs.declared.condition_lines.ConditionLines.{ConditionLines}
use Rattle.psu_bench.specs.declared.condition_lines.ConditionLine.{ConditionLine}
use Rattle.psu_bench.specs.Reopenings.{left_of_second}

-- The condition that the end of a job shows. A reopening shows none: a disk without room can be read and synced, but stores
-- nothing.
abbrev pub condition_shown : JobEnding → Option ReportedCondition
condition_shown ending.Stored = Some Works
condition_shown ending.Broken = Some Broken
condition_shown ending.Worn = Some Worn
condition_shown _ = None

-- after a change to this condition
abbrev pub with_change : ConditionLines → ReportedCondition → ConditionLines
with_change lines condition = record lines { latest = condition; changes = min (lines.changes + 1) (2 ^ 64 - 1) }

-- A line is due: the condition has changed since the last one, which was at least a second ago.
abbrev pub IsDue : ConditionLines → ℕ → Type 0
IsDue lines now = (0 < lines.changes) × (left_of_second lines.last now ≡ 0)

-- the line that is due
abbrev pub due_line : ConditionLines → ConditionLine
due_line lines = record { condition = lines.latest; changes = lines.changes }

-- after a line at this time
abbrev pub with_line : ConditionLines → ℕ → ConditionLines
with_line lines now = record lines { changes = 0; last = Some now }
