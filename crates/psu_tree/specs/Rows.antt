-- Properties of all rows of a table: no header matches two of them, or has two numeric suffixes.
use Rattle.std.specs.Prelude.{◌≡◌, ◌⊎◌, ℕ, Bool, List, [], ◌∷◌, ◌++◌}
use Rattle.psu_tree.specs.Headers.{Entry, Matches, form_for, form_of}
use Rattle.psu_tree.specs.Reading.{digits_of}

-- no words match two rows of the list
abbrev pub HaveNoHeaderInCommon : List Entry → Type 0
HaveNoHeaderInCommon rows =
    (before between after : List Entry) (row other : Entry) (words : List (List ℕ))
    → rows ≡ before ++ row ∷ (between ++ other ∷ after) → Matches row.nodes words → Matches other.nodes words → ⊥

-- words that match a row have the form of that row, wherever the row is
abbrev pub EachIsFoundByItsHeaders : List Entry → Type 0
EachIsFoundByItsHeaders rows =
    (before after : List Entry) (row : Entry) (words : List (List ℕ)) (asks : Bool)
    → rows ≡ before ++ row ∷ after → Matches row.nodes words → form_for rows words asks ≡ form_of asks row

-- of any two nodes of a header that matches a row, one ends without a digit
abbrev pub HaveOneNumber : List Entry → Type 0
HaveOneNumber rows =
    (before after : List Entry) (row : Entry) (prefix middle back : List (List ℕ)) (word other : List ℕ)
    → rows ≡ before ++ row ∷ after → Matches row.nodes (prefix ++ word ∷ (middle ++ other ∷ back)) → (digits_of word ≡ []) ⊎ (digits_of other ≡ [])
