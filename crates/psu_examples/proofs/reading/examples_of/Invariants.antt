use Rattle.std.proofs.Common.{◌≡◌, ◌+◌, ◌++◌, ◌≤◌, length, map}
use Rattle.psu_examples.specs.Examples.{examples_in, lines_of}
use Rattle.psu_examples.specs.Shown.{coming, shown}
use Rattle.psu_examples.proofs.reading.examples_of.Given as goal

abbrev pub invariant-loop-line : goal.invariant-loop-line
invariant-loop-line g l =
    (map shown l.reading.ended.items ++ coming l.reading.place l.number (lines_of l.rest) ≡ examples_in l.guide)
    × (l.number + length l.rest ≤ length l.guide + 1)

abbrev pub decreases-loop-line : goal.decreases-loop-line
decreases-loop-line g l = length l.rest
