use Rattle.std.proofs.Common.{ℕ, ◌<◌, ◌≤◌, length}
use Rattle.psu_items.specs.Layout.{HasHead}
use Rattle.psu_map.specs.Target.{item_in}
use Rattle.psu_items.proofs.kept.find.Given as goal

-- no head seen so far is the item's
abbrev pub invariant-loop-at : goal.invariant-loop-at
invariant-loop-at g l = (j : ℕ) → l.from ≤ j → j < l.at → HasHead l.heads (item_in l.entry) j → ⊥

abbrev pub invariant-loop-at-2 : goal.invariant-loop-at-2
invariant-loop-at-2 g l = record {
  after : (j : ℕ) → l.from ≤ j → j < length l.heads → HasHead l.heads (item_in l.entry) j → ⊥;
  before : (j : ℕ) → j < l.at → HasHead l.heads (item_in l.entry) j → ⊥;
}
