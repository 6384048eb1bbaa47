use Rattle.std.proofs.Common.{◌≡◌, ℕ, List, Bor, drop}
use Rattle.std.specs.Prelude.{map}
use Rattle.psu_tree.specs.Shown.{row_either}
use Rattle.psu_tree.proofs.lookups.row_either.Given as goal

abbrev pub invariant-loop-row : goal.invariant-loop-row
invariant-loop-row l =
    row_either (drop l.row-index l.rows) (map (λ (word : Bor (List ℕ)). word.now) l.words) (map (λ (word : Bor (List ℕ)). word.now) l.later)
    ≡ row_either l.rows (map (λ (word : Bor (List ℕ)). word.now) l.words) (map (λ (word : Bor (List ℕ)). word.now) l.later)
