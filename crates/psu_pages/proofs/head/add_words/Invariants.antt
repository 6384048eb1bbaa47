use Rattle.std.proofs.Common.{◌≡◌, ◌++◌, take}
use Rattle.psu_pages.specs.Spelling.{spelled_words}
use Rattle.psu_pages.proofs.head.add_words.Given as goal

abbrev pub invariant-loop-word : goal.invariant-loop-word
invariant-loop-word l = l.page ≡ l.fn.page ++ spelled_words (take l.word-index l.words)
