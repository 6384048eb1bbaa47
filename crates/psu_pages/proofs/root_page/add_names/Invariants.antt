use Rattle.std.proofs.Common.{◌≡◌, ◌++◌, take}
use Rattle.psu_pages.specs.Spelling.{names, spelled_words}
use Rattle.psu_pages.proofs.root_page.add_names.Given as goal

abbrev pub invariant-loop-head : goal.invariant-loop-head
invariant-loop-head g l = l.page ≡ l.fn.page ++ spelled_words (take l.head-index (names l.heads))
