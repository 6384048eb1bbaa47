use Rattle.std.proofs.Common.{ℕ, List, [], length, max}
use Rattle.psu_lex.specs.MacroScan.{Spells}
use Rattle.psu_lex.proofs.macros.greatest_of.Given as goal

abbrev pub invariant-loop-rest : goal.invariant-loop-rest
invariant-loop-rest l = (most : ℕ) (text : List ℕ) → Spells [] l.rest most text → (whole : List ℕ) × Spells [] l.body (max l.most most) whole

abbrev pub decreases-loop-rest : goal.decreases-loop-rest
decreases-loop-rest l = length l.rest
