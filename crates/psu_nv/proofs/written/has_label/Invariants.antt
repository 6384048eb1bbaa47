use Rattle.std.proofs.Common.{◌≡◌, drop}
use Rattle.psu_nv.specs.Contents.{body_at}
use Rattle.psu_nv.proofs.written.has_label.Given as goal

abbrev pub invariant-loop-written : goal.invariant-loop-written
invariant-loop-written l = body_at (drop l.written-index l.macros) l.label ≡ body_at l.macros l.label
