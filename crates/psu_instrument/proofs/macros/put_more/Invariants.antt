use Rattle.std.proofs.Common.{◌≡◌, ◌++◌, drop}
use Rattle.psu_instrument.specs.Macros.{more_labels}
use Rattle.psu_instrument.proofs.macros.put_more.Given as goal

abbrev pub invariant-loop-label : goal.invariant-loop-label
invariant-loop-label g l = l.text ++ more_labels (drop l.label-index l.labels) ≡ l.initial.text ++ more_labels l.labels
