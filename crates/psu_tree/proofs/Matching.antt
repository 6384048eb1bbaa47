-- The test of a row agrees with the standard's rule.
use Rattle.std.proofs.Common.{◌≡◌, ℕ, ◌&&◌, ◌||◌, Bool, true, false, List, [], ◌∷◌, refl, sym, subst, inl, inr}
use Rattle.std.specs.Prelude.{◌↔◌}
use Rattle.std.proofs.lemmas.Bool.{and_from, and_parts, or_cases}
use Rattle.psu_tree.specs.Headers.{Matches, Mnemonic, fits, in_brackets, names}

pub or_left : (a b : Bool) → a ≡ true → (a || b) ≡ true
or_left a b t = rw t refl

pub or_right : (a b : Bool) → b ≡ true → (a || b) ≡ true
or_right true b t = refl
or_right false b t = t

pub matches_out : (nodes : List Mnemonic) (words : List (List ℕ)) → fits nodes words ≡ true → Matches nodes words
matches_out [] [] h = tt
matches_out [] (word ∷ words) h = absurd (cc (h))
matches_out (node ∷ nodes) [] h = let p = and_parts (in_brackets node.kind) (fits nodes []) h in (p.0, matches_out nodes [] p.1)
matches_out (node ∷ nodes) (word ∷ words) h = elim (or_cases (names node word && fits nodes words) (in_brackets node.kind && fits nodes (word ∷ words)) h) [
  | inl t ↦ let p = and_parts (names node word) (fits nodes words) t in inl (p.0, matches_out nodes words p.1)
  | inr t ↦ let p = and_parts (in_brackets node.kind) (fits nodes (word ∷ words)) t in inr (p.0, matches_out nodes (word ∷ words) p.1)
]

pub matches_in : (nodes : List Mnemonic) (words : List (List ℕ)) → Matches nodes words → fits nodes words ≡ true
matches_in [] [] m = refl
matches_in [] (word ∷ words) m = absurd m
matches_in (node ∷ nodes) [] (b, m) = and_from (in_brackets node.kind) (fits nodes []) b (matches_in nodes [] m)
matches_in (node ∷ nodes) (word ∷ words) (inl (n, m)) =
    or_left (names node word && fits nodes words) (in_brackets node.kind && fits nodes (word ∷ words)) (and_from (names node word) (fits nodes words) n (matches_in nodes words m))
matches_in (node ∷ nodes) (word ∷ words) (inr (b, m)) =
    or_right (names node word && fits nodes words) (in_brackets node.kind && fits nodes (word ∷ words)) (and_from (in_brackets node.kind) (fits nodes (word ∷ words)) b (matches_in nodes (word ∷ words) m))

pub same_match : (nodes : List Mnemonic) (words : List (List ℕ)) → (fits nodes words ≡ true) ↔ Matches nodes words
same_match nodes words = (matches_out nodes words, matches_in nodes words)

-- a first word that names the first node, and others that match the nodes after it
pub matches_first : (nodes later : List Mnemonic) (node : Mnemonic) (words others : List (List ℕ)) (word : List ℕ) → nodes ≡ node ∷ later → words ≡ word ∷ others → names node word ≡ true
    → fits later others ≡ true → Matches nodes words
matches_first nodes later node words others word e f named h =
    subst (λ (z : List Mnemonic). Matches z words) (sym e) (subst (λ (z : List (List ℕ)). Matches (node ∷ later) z) (sym f) (inl (named, matches_out later others h)))
