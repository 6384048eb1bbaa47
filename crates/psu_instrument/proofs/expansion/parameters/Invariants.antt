use Rattle.std.proofs.Common.{◌≡◌, ◌-◌, List, length, map, ◌++◌}
use Rattle.psu_lex.specs.Shown.{HoldsData}
use Rattle.psu_lex.specs.Syntax.{Datum}
use Rattle.psu_instrument.specs.Macros.{written}
use Rattle.psu_instrument.proofs.expansion.parameters.Given as goal

abbrev pub invariant-loop-datum : goal.invariant-loop-datum
invariant-loop-datum l = (list : List Datum) → HoldsData l.initial.rest list → (others : List Datum) × HoldsData l.rest others × (written list ≡ map (λ text. text.now) l.texts.items ++ written others)

abbrev pub decreases-loop-datum : goal.decreases-loop-datum
decreases-loop-datum l = 9 - length l.texts.items
