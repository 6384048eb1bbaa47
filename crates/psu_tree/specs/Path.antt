-- The nodes of a header at a path, and how the path moves. Source: SCPI-1999 volume 1, 6.2.4 (traversal of the header
-- tree).
use Rattle.std.specs.Prelude.{ℕ, ◌-◌, Bool, true, false, List, [], ◌∷◌, ◌++◌, length, take}
use Rattle.psu_lex.specs.Syntax.{HeaderParts}
use Rattle.psu_lex.specs.declared.unit.HeaderMark.{HeaderMark}
use Rattle.psu_lex.specs.declared.unit.HeaderMark.TheVariants.{Star, Colon, Bare}

-- the nodes of a header at a path; `*` is a node of its own
abbrev pub words_at : HeaderMark → List (List ℕ) → List (List ℕ) → List (List ℕ)
words_at Star path nodes = (42 ∷ []) ∷ nodes
words_at Colon path nodes = nodes
words_at Bare path nodes = path ++ nodes

abbrev pub words_of : List (List ℕ) → HeaderParts → List (List ℕ)
words_of path h = words_at h.mark path (h.node ∷ h.nodes)

abbrev pub all_but_last : List (List ℕ) → List (List ℕ)
all_but_last words = take (length words - 1) words

-- the path after a header without error: its nodes without the last, which for a single node is the root after a
-- leading `:`, and the path itself without one; a common header leaves the path unchanged
abbrev pub next_path : HeaderMark → List (List ℕ) → List (List ℕ) → List (List ℕ)
next_path Star path words = path
next_path Colon path words = all_but_last words
next_path Bare path words = all_but_last words

-- the path after a header, whether it is without error (true) or not: an error leaves the path unchanged
abbrev pub path_after : Bool → List (List ℕ) → HeaderParts → List (List ℕ)
path_after true path h = next_path h.mark path (words_of path h)
path_after false path h = path
