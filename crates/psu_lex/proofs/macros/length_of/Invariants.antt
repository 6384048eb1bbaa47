use Rattle.std.proofs.Common.{◌≡◌, ℕ, ◌++◌, List, length, map, min}
use Rattle.psu_lex.specs.MacroScan.{Spells}
use Rattle.psu_lex.proofs.macros.length_of.Given as goal

abbrev pub invariant-loop-rest : goal.invariant-loop-rest
invariant-loop-rest l = record {
  written : List ℕ;
  held : l.length ≡ min 65537 (length written);
  so_far : (most : ℕ) (text : List ℕ) → Spells (map (λ arg. arg.now) l.args) l.rest most text → (all : ℕ) × Spells (map (λ arg. arg.now) l.args) l.body all (written ++ text);
}

abbrev pub decreases-loop-rest : goal.decreases-loop-rest
decreases-loop-rest l = length l.rest
