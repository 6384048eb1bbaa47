-- The table in the form of the code.
use Rattle.std.specs.Prelude.{ℕ, Bool, false, true, ◌==◌, ◌&&◌, ◌||◌, not, List, [], ◌∷◌, ◌++◌, map, find, Option}
use Rattle.psu_tree.specs.Headers.{Mnemonic, Entry, fits, is_numbered, is_small, names}
use Rattle.psu_tree.specs.Nonvolatile.{keeping_of}
use Rattle.psu_tree.specs.declared.rows.Node.{Node}
use Rattle.psu_tree.specs.declared.rows.Row.{Row}
use Rattle.psu_tree.specs.declared.rows.Section.{Section}

abbrev pub mnemonic : Node → Mnemonic
mnemonic node = record { name = node.name.now; kind = node.kind }

-- the row of a section, after its section's node
abbrev pub entry : Node → Row → Entry
entry root row = record { nodes = mnemonic root ∷ map mnemonic row.nodes.now; command = row.command; query = row.query; keeping = keeping_of row.command }

abbrev pub entries : List Section → List Entry
entries [] = []
entries (section ∷ sections) = map (entry section.root) section.rows.now ++ entries sections

-- a node begins with these two letters, in capitals; 0 means none
abbrev pub begins_with : ℕ → ℕ → Bool → List ℕ → Bool
begins_with first second numbered [] = false
begins_with first second numbered (x ∷ []) = (not (is_small x) && not numbered) && (x == first && 0 == second)
begins_with first second numbered (x ∷ y ∷ name) = (not (is_small x) && not (is_small y)) && (x == first && y == second)

-- each section's node begins with the letters of the section
abbrev pub each_begins : List Section → Bool
each_begins [] = true
each_begins (section ∷ sections) =
    begins_with section.first section.second (is_numbered section.root.kind) section.root.name.now && each_begins sections

-- the words match the nodes after a first node, which the first word names (`named`) or which is left out (`missing`)
abbrev pub fits_after : Bool → Bool → List Node → List (List ℕ) → Bool
fits_after named missing nodes [] = missing && fits (map mnemonic nodes) []
fits_after named missing nodes (word ∷ words) =
    (named && fits (map mnemonic nodes) words) || (missing && fits (map mnemonic nodes) (word ∷ words))

-- the first of the rows that words match
abbrev pub row_at : List Row → List (List ℕ) → Option Row
row_at rows words = find (λ row. fits (map mnemonic row.nodes.now) words) rows

-- the first row that either list of words matches
abbrev pub row_either : List Row → List (List ℕ) → List (List ℕ) → Option Row
row_either rows words later = find (λ row. fits (map mnemonic row.nodes.now) later || fits (map mnemonic row.nodes.now) words) rows

-- the first of a section's rows that the words match
abbrev pub row_after : Bool → Bool → List Row → List (List ℕ) → Option Row
row_after named missing rows words = find (λ row. fits_after named missing row.nodes.now words) rows

-- the first word names the node
abbrev pub named_of : Node → List (List ℕ) → Bool
named_of root [] = false
named_of root (word ∷ words) = names (mnemonic root) word
