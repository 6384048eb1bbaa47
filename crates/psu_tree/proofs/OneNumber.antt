-- A header that matches a row of the table has at most one numeric suffix: a row has at most one numbered node, and no
-- mnemonic ends in a digit.
use Rattle.std.proofs.Common.{◌≡◌, ◌⊎◌, ℕ, ◌≤◌, ◌-◌, ◌==◌, ◌&&◌, ◌||◌, Bool, true, false, not, List, [], ◌∷◌, ◌++◌, length, drop, length-drop, refl, subst, arith, inl, inr}
use Rattle.std.specs.Prelude.{if◌then◌else◌}
use Rattle.std.proofs.lemmas.Bool.{and_parts, cases_Bool, or_cases}
use Rattle.std.proofs.lemmas.List.{drop_all}
use Rattle.psu_tree.specs.Headers.{Entry, Matches, Mnemonic, capital, in_brackets, is_form, is_numbered, names, same_letters, short, stem}
use Rattle.psu_tree.specs.Reading.{digits_of}
use Rattle.psu_tree.specs.Rows.{HaveOneNumber}
use Rattle.psu_tree.specs.Table.{table}
use Rattle.psu_tree.proofs.Apart.{stem_same}

-- ---- words of nodes without a number

abbrev is_none : List ℕ → Bool
is_none [] = true
is_none (x ∷ xs) = false

none_is : (xs : List ℕ) → is_none xs ≡ true → xs ≡ []
none_is [] h = refl
none_is (x ∷ xs) h = absurd (cc (h))

same_length : (a b : List ℕ) → same_letters a b ≡ true → length a ≡ length b
same_length [] [] h = refl
same_length [] (y ∷ b) h = absurd (cc (h))
same_length (x ∷ a) [] h = absurd (cc (h))
same_length (x ∷ a) (y ∷ b) h =
    let k = same_length a b (and_parts (capital x == capital y) (same_letters a b) h).1 in
    omega (arith, k)

-- a word that is equal to a text without digits at its end has none either
same_end : (form word : List ℕ) → same_letters form word ≡ true → digits_of form ≡ [] → digits_of word ≡ []
same_end form word h none =
    let all : length form ≡ length word = same_length form word h in
    let stems : length (stem form) ≡ length (stem word) = same_length (stem form) (stem word) (stem_same form word h) in
    let cut : length (digits_of form) ≡ length form - length (stem form) = length-drop (length (stem form)) form in
    let empty : length (digits_of form) ≡ 0 = rw none refl in
    drop_all (length (stem word)) word (omega (arith, all, stems, cut, empty))

-- the mnemonic's forms end without a digit
abbrev is_plain : Mnemonic → Bool
is_plain node = is_none (digits_of (short node.name)) && is_none (digits_of node.name)

plain_named : (node : Mnemonic) (word : List ℕ) → is_plain node ≡ true → is_numbered node.kind ≡ false → names node word ≡ true → digits_of word ≡ []
plain_named node word p f h =
    let q = and_parts (is_none (digits_of (short node.name))) (is_none (digits_of node.name)) p in
    let g : is_form node.name word ≡ true = rw f at h in
    elim (or_cases (same_letters (short node.name) word) (same_letters node.name word) g) [
      | inl s ↦ same_end (short node.name) word s (none_is (digits_of (short node.name)) q.0)
      | inr l ↦ same_end node.name word l (none_is (digits_of node.name) q.1)
    ]

-- ---- rows

-- no node may have a number
abbrev has_none : List Mnemonic → Bool
has_none [] = true
has_none (node ∷ nodes) = (is_plain node && not (is_numbered node.kind)) && has_none nodes

-- at most one node may have a number
abbrev has_one : List Mnemonic → Bool
has_one [] = true
has_one (node ∷ nodes) = is_plain node && (if is_numbered node.kind then has_none nodes else has_one nodes)

not_true : (b : Bool) → not b ≡ true → b ≡ false
not_true true h = absurd (cc (h))
not_true false h = refl

no_number : (nodes : List Mnemonic) (prefix back : List (List ℕ)) (word : List ℕ) → has_none nodes ≡ true → Matches nodes (prefix ++ word ∷ back) → digits_of word ≡ []
no_number [] [] back word h m = absurd m
no_number [] (x ∷ prefix) back word h m = absurd m
no_number (node ∷ nodes) [] back word h (inl (n, m)) =
    let p = and_parts (is_plain node && not (is_numbered node.kind)) (has_none nodes) h in
    let q = and_parts (is_plain node) (not (is_numbered node.kind)) p.0 in
    plain_named node word q.0 (not_true (is_numbered node.kind) q.1) n
no_number (node ∷ nodes) [] back word h (inr (b, m)) =
    no_number nodes [] back word (and_parts (is_plain node && not (is_numbered node.kind)) (has_none nodes) h).1 m
no_number (node ∷ nodes) (x ∷ prefix) back word h (inl (n, m)) =
    no_number nodes prefix back word (and_parts (is_plain node && not (is_numbered node.kind)) (has_none nodes) h).1 m
no_number (node ∷ nodes) (x ∷ prefix) back word h (inr (b, m)) =
    no_number nodes (x ∷ prefix) back word (and_parts (is_plain node && not (is_numbered node.kind)) (has_none nodes) h).1 m

none_one : (nodes : List Mnemonic) → has_none nodes ≡ true → has_one nodes ≡ true
none_one [] h = refl
none_one (node ∷ nodes) h =
    let p = and_parts (is_plain node && not (is_numbered node.kind)) (has_none nodes) h in
    let q = and_parts (is_plain node) (not (is_numbered node.kind)) p.0 in
    rw (q.0, not_true (is_numbered node.kind) q.1) (none_one nodes p.1)

-- the nodes after one have at most one number too
rest_one : (numbered : Bool) (nodes : List Mnemonic) → (if numbered then has_none nodes else has_one nodes) ≡ true → has_one nodes ≡ true
rest_one true nodes h = none_one nodes h
rest_one false nodes h = h

first_word : (numbered : Bool) (node : Mnemonic) (nodes : List Mnemonic) (middle back : List (List ℕ)) (word other : List ℕ) → is_numbered node.kind ≡ numbered → is_plain node ≡ true
    → (if numbered then has_none nodes else has_one nodes) ≡ true → names node word ≡ true → Matches nodes (middle ++ other ∷ back) → (digits_of word ≡ []) ⊎ (digits_of other ≡ [])
first_word true node nodes middle back word other e p h n m = inr (no_number nodes middle back other h m)
first_word false node nodes middle back word other e p h n m = inl (plain_named node word p e n)

one_number : (nodes : List Mnemonic) (prefix middle back : List (List ℕ)) (word other : List ℕ) → has_one nodes ≡ true → Matches nodes (prefix ++ word ∷ (middle ++ other ∷ back))
    → (digits_of word ≡ []) ⊎ (digits_of other ≡ [])
one_number [] [] middle back word other h m = absurd m
one_number [] (x ∷ prefix) middle back word other h m = absurd m
one_number (node ∷ nodes) [] middle back word other h (inl (n, m)) =
    let p = and_parts (is_plain node) (if is_numbered node.kind then has_none nodes else has_one nodes) h in
    first_word (is_numbered node.kind) node nodes middle back word other refl p.0 p.1 n m
one_number (node ∷ nodes) [] middle back word other h (inr (b, m)) =
    let p = and_parts (is_plain node) (if is_numbered node.kind then has_none nodes else has_one nodes) h in
    one_number nodes [] middle back word other (rest_one (is_numbered node.kind) nodes p.1) m
one_number (node ∷ nodes) (x ∷ prefix) middle back word other h (inl (n, m)) =
    let p = and_parts (is_plain node) (if is_numbered node.kind then has_none nodes else has_one nodes) h in
    one_number nodes prefix middle back word other (rest_one (is_numbered node.kind) nodes p.1) m
one_number (node ∷ nodes) (x ∷ prefix) middle back word other h (inr (b, m)) =
    let p = and_parts (is_plain node) (if is_numbered node.kind then has_none nodes else has_one nodes) h in
    one_number nodes (x ∷ prefix) middle back word other (rest_one (is_numbered node.kind) nodes p.1) m

-- ---- tables

abbrev all_one : List Entry → Bool
all_one [] = true
all_one (row ∷ rows) = has_one row.nodes && all_one rows

one_at : (before after : List Entry) (row : Entry) → all_one (before ++ row ∷ after) ≡ true → has_one row.nodes ≡ true
one_at [] after row h = (and_parts (has_one row.nodes) (all_one after) h).0
one_at (first ∷ before) after row h = one_at before after row (and_parts (has_one first.nodes) (all_one (before ++ row ∷ after)) h).1

each_one_number : (rows : List Entry) → all_one rows ≡ true → HaveOneNumber rows
each_one_number rows h before after row prefix middle back word other e m =
    one_number row.nodes prefix middle back word other (one_at before after row (subst (λ (z : List Entry). all_one z ≡ true) e h)) m

table_one : all_one table ≡ true
table_one = refl

pub table_one_number : HaveOneNumber table
table_one_number = each_one_number table table_one
