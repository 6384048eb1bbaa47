-- No header of the table has more than five nodes.
use Rattle.std.proofs.Common.{◌≡◌, ℕ, ◌<◌, ◌≤◌, ◌&&◌, Bool, true, false, List, [], ◌∷◌, length, refl, arith}
use Rattle.std.specs.Prelude.{None, nat_le}
use Rattle.std.proofs.lemmas.Bool.Decides.{nat_tests}
use Rattle.psu_tree.specs.Headers.{Entry, Mnemonic, form_for, fits, in_brackets, names}
use Rattle.psu_tree.specs.Table.{table}

abbrev few : List Entry → Bool
few [] = true
few (entry ∷ entries) = nat_le (length entry.nodes) 5 && few entries

few_table : few table ≡ true
few_table = refl

and_none : (a : Bool) → (a && false) ≡ false
and_none true = refl
and_none false = refl

-- more words than nodes do not match
too_many : (nodes : List Mnemonic) (words : List (List ℕ)) → length nodes < length words → fits nodes words ≡ false
too_many [] [] lt = absurd (omega (arith, lt))
too_many [] (word ∷ words) lt = refl
too_many (node ∷ nodes) [] lt = absurd (omega (arith, lt))
too_many (node ∷ nodes) (word ∷ words) lt =
    rw (too_many nodes words (omega (arith, lt)), too_many nodes (word ∷ words) (omega (arith, lt)), and_none (names node word), and_none (in_brackets node.kind)) refl

and_left : (a b : Bool) → (a && b) ≡ true → a ≡ true
and_left true b h = refl
and_left false b h = h

and_right : (a b : Bool) → (a && b) ≡ true → b ≡ true
and_right true b h = h
and_right false b h = absurd (cc (h))

at_most_five : (n : ℕ) → nat_le n 5 ≡ true → n ≤ 5
at_most_five n h = grind (arith, nat_tests, h)

none_in : (entries : List Entry) (words : List (List ℕ)) (asks : Bool) → few entries ≡ true → 5 < length words → form_for entries words asks ≡ None
none_in [] words asks h lt = refl
none_in (entry ∷ entries) words asks h lt =
    let n : length entry.nodes ≤ 5 = at_most_five (length entry.nodes) (and_left (nat_le (length entry.nodes) 5) (few entries) h) in
    rw (too_many entry.nodes words (omega (arith, n, lt))) (none_in entries words asks (and_right (nat_le (length entry.nodes) 5) (few entries) h) lt)

pub none_found : (words : List (List ℕ)) (asks : Bool) → 5 < length words → form_for table words asks ≡ None
none_found words asks lt = none_in table words asks few_table lt
