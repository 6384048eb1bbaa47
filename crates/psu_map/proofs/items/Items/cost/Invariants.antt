use Rattle.std.proofs.Common.{◌≡◌, ◌+◌, ◌*◌, ◌^◌, ◌≤◌, drop}
use Rattle.psu_map.specs.Map.{cost}
use Rattle.psu_map.proofs.items.Items.cost.Given as goal

abbrev pub invariant-loop-pair : goal.invariant-loop-pair
invariant-loop-pair g l = record {
  so_far : l.pages + cost (drop l.pair-index l.pair-items) ≡ cost l.pair-items;
  bound : l.pages ≤ 2 ^ 60 * l.pair-index;
}
