use Rattle.psu_run.proofs.Common.{◌≡◌, ◌++◌, drop, flat_map}
use Rattle.psu_run.specs.Recover.{file_line}
use Rattle.psu_run.proofs.recovery.report.put_files.Given as goal

abbrev pub invariant-loop-file : goal.invariant-loop-file
invariant-loop-file g l = l.text.items ++ flat_map file_line (drop l.file-index l.files) ≡ l.initial.text.items ++ flat_map file_line l.files
