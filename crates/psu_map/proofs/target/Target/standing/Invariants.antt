use Rattle.std.proofs.Common.{◌≡◌, take, true}
use Rattle.std.specs.List.{AllByRecursion}
use Rattle.psu_map.specs.Target.{items_in}
use Rattle.psu_map.proofs.target.Target.standing.Given as goal

-- the items so far are unchanged
abbrev pub invariant-loop-pair : goal.invariant-loop-pair
invariant-loop-pair g l = record {
  items : items_in l.entries.items ≡ take l.pair-index l.before;
  stand : AllByRecursion (λ e. e.stands ≡ true) l.entries.items;
}
