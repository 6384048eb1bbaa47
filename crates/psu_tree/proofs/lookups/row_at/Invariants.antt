use Rattle.std.proofs.Common.{◌≡◌, ℕ, List, Bor, drop}
use Rattle.std.specs.Prelude.{map}
use Rattle.psu_tree.specs.Shown.{row_at}
use Rattle.psu_tree.proofs.lookups.row_at.Given as goal

abbrev pub invariant-loop-row : goal.invariant-loop-row
invariant-loop-row l =
    row_at (drop l.row-index l.rows) (map (λ (word : Bor (List ℕ)). word.now) l.words) ≡ row_at l.rows (map (λ (word : Bor (List ℕ)). word.now) l.words)
