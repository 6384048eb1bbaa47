use Rattle.std.proofs.Common.{◌≡◌, ◌≤◌, length, drop, true}
use Rattle.psu_lex.specs.Bytes.{all_digits}
use Rattle.psu_tree.proofs.walks.without_number.Given as goal

abbrev pub invariant-loop-end : goal.invariant-loop-end
invariant-loop-end l = (l.end ≤ length l.word) × (all_digits (drop l.end l.word) ≡ true)

abbrev pub decreases-loop-end : goal.decreases-loop-end
decreases-loop-end l = l.end
