-- No words match two rows of the table: a test of two rows' nodes, and why it suffices.
use Rattle.std.proofs.Common.{◌≡◌, ◌⊎◌, ℕ, zero, suc, ◌==◌, ◌&&◌, ◌||◌, Bool, true, false, not, List, [], ◌∷◌, ◌++◌, refl, sym, subst, arith, inl, inr}
use Rattle.std.specs.Prelude.{if◌then◌else◌}
use Rattle.std.proofs.lemmas.Bool.{and_from, and_parts, cases_Bool, or_cases}
use Rattle.std.proofs.lemmas.Bool.Decides.{nat_tests}
use Rattle.psu_lex.specs.Bytes.{all_digits, is_digit}
use Rattle.psu_tree.specs.Headers.{Entry, Matches, Mnemonic, form_for, capital, fits, form_of, in_brackets, is_numbered, names, same_letters, short, stem}
use Rattle.psu_tree.specs.Rows.{HaveNoHeaderInCommon, EachIsFoundByItsHeaders}
use Rattle.psu_tree.specs.Table.{table}
use Rattle.psu_tree.proofs.Matching.{or_left, or_right, matches_in, matches_out}

-- ---- letters

capital_same : (x y z : ℕ) → (capital x == capital z) ≡ true → (capital y == capital z) ≡ true → (capital x == capital y) ≡ true
capital_same x y z h k = grind (arith, nat_tests, h, k)

digit_same : (x y : ℕ) → (capital x == capital y) ≡ true → is_digit x ≡ is_digit y
digit_same x y h = grind (arith, nat_tests, h)

-- texts that are equal to a third are equal
same_both : (a b c : List ℕ) → same_letters a c ≡ true → same_letters b c ≡ true → same_letters a b ≡ true
same_both [] [] c h k = refl
same_both [] (y ∷ b) [] h k = absurd (cc (k))
same_both [] (y ∷ b) (z ∷ c) h k = absurd (cc (h))
same_both (x ∷ a) b [] h k = absurd (cc (h))
same_both (x ∷ a) [] (z ∷ c) h k = absurd (cc (k))
same_both (x ∷ a) (y ∷ b) (z ∷ c) h k =
    let p = and_parts (capital x == capital z) (same_letters a c) h in
    let q = and_parts (capital y == capital z) (same_letters b c) k in
    and_from (capital x == capital y) (same_letters a b) (capital_same x y z p.0 q.0) (same_both a b c p.1 q.1)

digits_same : (a b : List ℕ) → same_letters a b ≡ true → all_digits a ≡ all_digits b
digits_same [] [] h = refl
digits_same [] (y ∷ b) h = absurd (cc (h))
digits_same (x ∷ a) [] h = absurd (cc (h))
digits_same (x ∷ a) (y ∷ b) h =
    let p = and_parts (capital x == capital y) (same_letters a b) h in
    rw (digit_same x y p.0, digits_same a b p.1) refl

pub stem_same : (a b : List ℕ) → same_letters a b ≡ true → same_letters (stem a) (stem b) ≡ true
stem_same [] [] h = refl
stem_same [] (y ∷ b) h = absurd (cc (h))
stem_same (x ∷ a) [] h = absurd (cc (h))
stem_same (x ∷ a) (y ∷ b) h =
    let p = and_parts (capital x == capital y) (same_letters a b) h in
    let e : all_digits (x ∷ a) ≡ all_digits (y ∷ b) = digits_same (x ∷ a) (y ∷ b) h in
    elim (cases_Bool (all_digits (y ∷ b))) [
      | inl t ↦ rw (e, t) refl
      | inr f ↦ rw (e, f) (and_from (capital x == capital y) (same_letters (stem a) (stem b)) p.0 (stem_same a b p.1))
    ]

-- ---- nodes

-- a form of a node, as in words once the digits at their ends are cut off
abbrev cut : Bool → List ℕ → List ℕ
cut true form = form
cut false form = stem form

abbrev seen : Mnemonic → List ℕ → List ℕ
seen node form = cut (is_numbered node.kind) form

-- the nodes have a form in common
abbrev alike : Mnemonic → Mnemonic → Bool
alike m n =
    (same_letters (seen m (short m.name)) (seen n (short n.name)) || same_letters (seen m (short m.name)) (seen n n.name))
    || (same_letters (seen m m.name) (seen n (short n.name)) || same_letters (seen m m.name) (seen n n.name))

cut_in : (numbered : Bool) (word form : List ℕ) → same_letters form (if numbered then stem word else word) ≡ true → same_letters (cut numbered form) (stem word) ≡ true
cut_in true word form h = h
cut_in false word form h = stem_same form word h

named_in : (node : Mnemonic) (word : List ℕ) → names node word ≡ true → (same_letters (seen node (short node.name)) (stem word) ≡ true) ⊎ (same_letters (seen node node.name) (stem word) ≡ true)
named_in node word h =
    let as_one = if is_numbered node.kind then stem word else word in
    elim (or_cases (same_letters (short node.name) as_one) (same_letters node.name as_one) h) [
      | inl s ↦ inl (cut_in (is_numbered node.kind) word (short node.name) s)
      | inr l ↦ inr (cut_in (is_numbered node.kind) word node.name l)
    ]

-- a word that names two nodes
both_named : (m n : Mnemonic) (word : List ℕ) → names m word ≡ true → names n word ≡ true → alike m n ≡ true
both_named m n word h k =
    let a = same_letters (seen m (short m.name)) (seen n (short n.name)) in
    let b = same_letters (seen m (short m.name)) (seen n n.name) in
    let c = same_letters (seen m m.name) (seen n (short n.name)) in
    let d = same_letters (seen m m.name) (seen n n.name) in
    let left = named_in m word h in
    let right = named_in n word k in
    elim left [
      | inl s ↦ elim right [
        | inl t ↦ or_left (a || b) (c || d) (or_left a b (same_both (seen m (short m.name)) (seen n (short n.name)) (stem word) s t))
        | inr t ↦ or_left (a || b) (c || d) (or_right a b (same_both (seen m (short m.name)) (seen n n.name) (stem word) s t))
      ]
      | inr s ↦ elim right [
        | inl t ↦ or_right (a || b) (c || d) (or_left c d (same_both (seen m m.name) (seen n (short n.name)) (stem word) s t))
        | inr t ↦ or_right (a || b) (c || d) (or_right c d (same_both (seen m m.name) (seen n n.name) (stem word) s t))
      ]
    ]

-- ---- rows

abbrev all_bracketed : List Mnemonic → Bool
all_bracketed [] = true
all_bracketed (node ∷ nodes) = in_brackets node.kind && all_bracketed nodes

-- whether some words may match both: each step takes a word or leaves out a node, for `fuel` steps
abbrev may_meet : ℕ → List Mnemonic → List Mnemonic → Bool
may_meet zero ms ns = true
may_meet (suc fuel) [] ns = all_bracketed ns
may_meet (suc fuel) (m ∷ ms) [] = all_bracketed (m ∷ ms)
may_meet (suc fuel) (m ∷ ms) (n ∷ ns) =
    (elim (alike m n) as (λ _. Bool) [ true ↦ may_meet fuel ms ns | false ↦ false ])
    || ((elim (in_brackets m.kind) as (λ _. Bool) [ true ↦ may_meet fuel ms (n ∷ ns) | false ↦ false ])
    || (elim (in_brackets n.kind) as (λ _. Bool) [ true ↦ may_meet fuel (m ∷ ms) ns | false ↦ false ]))

guarded : (a b : Bool) → a ≡ true → b ≡ true → (elim a as (λ _. Bool) [ true ↦ b | false ↦ false ]) ≡ true
guarded a b h k = rw (h, k) refl

step_both : (fuel : ℕ) (m n : Mnemonic) (ms ns : List Mnemonic) → alike m n ≡ true → may_meet fuel ms ns ≡ true → may_meet (suc fuel) (m ∷ ms) (n ∷ ns) ≡ true
step_both fuel m n ms ns h k =
    or_left (elim (alike m n) as (λ _. Bool) [ true ↦ may_meet fuel ms ns | false ↦ false ]) _ (guarded (alike m n) (may_meet fuel ms ns) h k)

step_left : (fuel : ℕ) (m n : Mnemonic) (ms ns : List Mnemonic) → in_brackets m.kind ≡ true → may_meet fuel ms (n ∷ ns) ≡ true → may_meet (suc fuel) (m ∷ ms) (n ∷ ns) ≡ true
step_left fuel m n ms ns h k =
    or_right (elim (alike m n) as (λ _. Bool) [ true ↦ may_meet fuel ms ns | false ↦ false ]) _
    (or_left (elim (in_brackets m.kind) as (λ _. Bool) [ true ↦ may_meet fuel ms (n ∷ ns) | false ↦ false ]) _ (guarded (in_brackets m.kind) (may_meet fuel ms (n ∷ ns)) h k))

step_right : (fuel : ℕ) (m n : Mnemonic) (ms ns : List Mnemonic) → in_brackets n.kind ≡ true → may_meet fuel (m ∷ ms) ns ≡ true → may_meet (suc fuel) (m ∷ ms) (n ∷ ns) ≡ true
step_right fuel m n ms ns h k =
    or_right (elim (alike m n) as (λ _. Bool) [ true ↦ may_meet fuel ms ns | false ↦ false ]) _
    (or_right (elim (in_brackets m.kind) as (λ _. Bool) [ true ↦ may_meet fuel ms (n ∷ ns) | false ↦ false ])
    (elim (in_brackets n.kind) as (λ _. Bool) [ true ↦ may_meet fuel (m ∷ ms) ns | false ↦ false ]) (guarded (in_brackets n.kind) (may_meet fuel (m ∷ ms) ns) h k))

none_left : (nodes : List Mnemonic) → Matches nodes [] → all_bracketed nodes ≡ true
none_left [] m = refl
none_left (node ∷ nodes) (b, m) = and_from (in_brackets node.kind) (all_bracketed nodes) b (none_left nodes m)

meet : (fuel : ℕ) (ms ns : List Mnemonic) (words : List (List ℕ)) → Matches ms words → Matches ns words → may_meet fuel ms ns ≡ true
meet zero ms ns words h k = refl
meet (suc fuel) [] ns [] h k = none_left ns k
meet (suc fuel) [] ns (word ∷ words) h k = absurd h
meet (suc fuel) (m ∷ ms) [] [] h k = none_left (m ∷ ms) h
meet (suc fuel) (m ∷ ms) [] (word ∷ words) h k = absurd k
meet (suc fuel) (m ∷ ms) (n ∷ ns) [] (b, h) k = step_left fuel m n ms ns b (meet fuel ms (n ∷ ns) [] h k)
meet (suc fuel) (m ∷ ms) (n ∷ ns) (word ∷ words) (inr (b, h)) k = step_left fuel m n ms ns b (meet fuel ms (n ∷ ns) (word ∷ words) h k)
meet (suc fuel) (m ∷ ms) (n ∷ ns) (word ∷ words) (inl (x, h)) (inr (b, k)) = step_right fuel m n ms ns b (meet fuel (m ∷ ms) ns (word ∷ words) (inl (x, h)) k)
meet (suc fuel) (m ∷ ms) (n ∷ ns) (word ∷ words) (inl (x, h)) (inl (y, k)) = step_both fuel m n ms ns (both_named m n word x y) (meet fuel ms ns words h k)

-- ---- tables

-- the nodes share no header with any of the rows
abbrev is_free : List Mnemonic → List Entry → Bool
is_free nodes [] = true
is_free nodes (row ∷ rows) = not (may_meet 16 nodes row.nodes) && is_free nodes rows

-- no row shares a header with a later one
abbrev are_free : List Entry → Bool
are_free [] = true
are_free (row ∷ rows) = is_free row.nodes rows && are_free rows

never : (b : Bool) → not b ≡ true → b ≡ true → ⊥
never true h k = cc (h)
never false h k = cc (k)

free_of : (nodes : List Mnemonic) (before after : List Entry) (other : Entry) (words : List (List ℕ)) → is_free nodes (before ++ other ∷ after) ≡ true → Matches nodes words → Matches other.nodes words → ⊥
free_of nodes [] after other words h m n =
    never (may_meet 16 nodes other.nodes) (and_parts (not (may_meet 16 nodes other.nodes)) (is_free nodes after) h).0 (meet 16 nodes other.nodes words m n)
free_of nodes (row ∷ before) after other words h m n =
    free_of nodes before after other words (and_parts (not (may_meet 16 nodes row.nodes)) (is_free nodes (before ++ other ∷ after)) h).1 m n

free_pair : (before between after : List Entry) (row other : Entry) (words : List (List ℕ)) → are_free (before ++ row ∷ (between ++ other ∷ after)) ≡ true
    → Matches row.nodes words → Matches other.nodes words → ⊥
free_pair [] between after row other words h m n =
    free_of row.nodes between after other words (and_parts (is_free row.nodes (between ++ other ∷ after)) (are_free (between ++ other ∷ after)) h).0 m n
free_pair (first ∷ before) between after row other words h m n =
    free_pair before between after row other words (and_parts (is_free first.nodes (before ++ row ∷ (between ++ other ∷ after))) (are_free (before ++ row ∷ (between ++ other ∷ after))) h).1 m n

none_common : (rows : List Entry) → are_free rows ≡ true → HaveNoHeaderInCommon rows
none_common rows h before between after row other words e m n =
    free_pair before between after row other words (subst (λ (z : List Entry). are_free z ≡ true) e h) m n

-- the first row that the words match is the only one
free_first : (before after : List Entry) (row : Entry) (words : List (List ℕ)) (asks : Bool) → are_free (before ++ row ∷ after) ≡ true → Matches row.nodes words
    → form_for (before ++ row ∷ after) words asks ≡ form_of asks row
free_first [] after row words asks h m = rw (matches_in row.nodes words m) refl
free_first (first ∷ before) after row words asks h m =
    let p = and_parts (is_free first.nodes (before ++ row ∷ after)) (are_free (before ++ row ∷ after)) h in
    elim (cases_Bool (fits first.nodes words)) [
      | inl t ↦ absurd (free_of first.nodes before after row words p.0 (matches_out first.nodes words t) m)
      | inr f ↦ rw f (free_first before after row words asks p.1 m)
    ]

each_found : (rows : List Entry) → are_free rows ≡ true → EachIsFoundByItsHeaders rows
each_found rows h before after row words asks e m =
    subst (λ (z : List Entry). form_for z words asks ≡ form_of asks row) (sym e) (free_first before after row words asks (subst (λ (z : List Entry). are_free z ≡ true) e h) m)

table_free : are_free table ≡ true
table_free = refl

pub table_apart : HaveNoHeaderInCommon table
table_apart = none_common table table_free

pub table_found : EachIsFoundByItsHeaders table
table_found = each_found table table_free
