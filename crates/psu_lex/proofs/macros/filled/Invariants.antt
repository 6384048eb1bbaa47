use Rattle.std.proofs.Common.{ℕ, List, length, map, ◌++◌}
use Rattle.psu_lex.specs.MacroScan.{Spells}
use Rattle.psu_lex.proofs.macros.filled.Given as goal

abbrev pub invariant-loop-rest : goal.invariant-loop-rest
invariant-loop-rest g l =
    (most : ℕ) (text : List ℕ) → Spells (map (λ arg. arg.now) l.args) l.rest most text → (all : ℕ) × Spells (map (λ arg. arg.now) l.args) l.body all (l.list.items ++ text)

abbrev pub decreases-loop-rest : goal.decreases-loop-rest
decreases-loop-rest g l = length l.rest
