use Rattle.psu_run.proofs.Common.{◌≡◌, ◌++◌, drop, map}
use Rattle.psu_run.specs.Recover.{entry, reported}
use Rattle.psu_run.proofs.recovery.listing.files_of.Given as goal

abbrev pub invariant-loop-file : goal.invariant-loop-file
invariant-loop-file g l = map reported l.files.items ++ map entry (drop l.file-index l.kept) ≡ map entry l.kept
