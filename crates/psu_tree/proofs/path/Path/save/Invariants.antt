use Rattle.std.proofs.Common.{◌≡◌, take}
use Rattle.psu_tree.proofs.path.Path.save.Given as goal

abbrev pub invariant-loop-word : goal.invariant-loop-word
invariant-loop-word g l = l.words.items ≡ take l.word-index l.self
