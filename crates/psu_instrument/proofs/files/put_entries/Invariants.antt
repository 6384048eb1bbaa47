use Rattle.std.proofs.Common.{◌≡◌, ◌++◌, drop}
use Rattle.psu_instrument.specs.Files.{entries}
use Rattle.psu_instrument.proofs.files.put_entries.Given as goal

abbrev pub invariant-loop-file : goal.invariant-loop-file
invariant-loop-file g l = l.text ++ entries (drop l.file-index l.files) ≡ l.initial.text ++ entries l.files
