use Rattle.std.proofs.Common.{◌≡◌, map, take}
use Rattle.psu_tree.proofs.path.SavedPath.restore.Given as goal

abbrev pub invariant-loop-word : goal.invariant-loop-word
invariant-loop-word g l = map (λ word. word.now) l.path-inside.words.items ≡ take l.word-index l.self
