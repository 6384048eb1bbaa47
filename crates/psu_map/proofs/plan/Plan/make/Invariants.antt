use Rattle.std.proofs.Common.{◌≡◌, ◌≤◌, ◌+◌, [], length, vec_len, vec_capacity}
use Rattle.std.specs.Vec.Iter.{into_iter_items, into_iter_len}
use Rattle.psu_map.specs.Map.{IsSorted}
use Rattle.psu_map.specs.Batch.{changed}
use Rattle.psu_map.proofs.plan.Plan.make.Given as goal

-- there is room for the remaining edits, and they turn the map into what all edits turn the first one into
abbrev pub invariant-loop-edit : goal.invariant-loop-edit
invariant-loop-edit g l =
    let pairs = l.self-inside.pairs in
    let left = into_iter_items l.rest in
    IsSorted pairs.items × (l.self-inside.edits ≡ []) × (vec_len pairs + length left ≤ vec_capacity pairs) × (changed pairs.items left ≡ changed l.fn.self.map l.fn.self.edits)

abbrev pub decreases-loop-edit : goal.decreases-loop-edit
decreases-loop-edit g l = into_iter_len l.rest
