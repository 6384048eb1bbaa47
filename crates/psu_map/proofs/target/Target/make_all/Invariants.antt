use Rattle.std.proofs.Common.{◌≡◌, ℕ, List, Some, drop}
use Rattle.psu_map.specs.Batch.{changed, KeepsValue}
use Rattle.psu_map.specs.Target.{aimed, standing}
use Rattle.psu_map.proofs.target.Target.make_all.Given as goal

-- the edits so far are made, and what all edits keep is unchanged
abbrev pub invariant-loop-edit : goal.invariant-loop-edit
invariant-loop-edit g l = record {
  before : (let t = l.self in t.before) ≡ (let t = l.fn.self in t.before);
  aimed : changed (aimed l.self) (drop l.edit-index l.edits) ≡ changed (aimed l.fn.self) l.edits;
  standing : (key value : List ℕ) → standing (let t = l.fn.self in t.entries) key ≡ Some value → KeepsValue l.edits key value → standing (let t = l.self in t.entries) key ≡ Some value;
}
