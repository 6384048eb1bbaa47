-- The nodes of a header, cut at each `:`.
use Rattle.std.proofs.Common.{◌≡◌, ℕ, suc, ◌+◌, ◌<◌, ◌≤◌, ◌==◌, ◌&&◌, Bool, true, false, List, [], ◌∷◌, ◌++◌, length, take, drop, slice_index, drop-cons, add-one, refl, sym, ap, ◌∙◌, append_assoc, arith}
use Rattle.std.proofs.lemmas.Bool.Decides.{nat_tests}
use Rattle.std.proofs.lemmas.Grind.{common_steps}
use Rattle.std.proofs.lemmas.List.{append-nil, drop_all}
use Rattle.psu_lex.specs.Bytes.{is_letter}
use Rattle.psu_lex.specs.Syntax.{is_name_byte, all_name, is_node, behind}
use Rattle.psu_tree.specs.Scans.{node_of, after_node}

-- ---- the end of the first node

pub record Reaches (text : List ℕ) (at : ℕ) : Type 0 where
  pub node : node_of text ≡ take at text ++ node_of (drop at text)
  pub rest : after_node text ≡ after_node (drop at text)

pub reaches_on : (text : List ℕ) (at : ℕ) → at < length text → (slice_index text at == 58) ≡ false → Reaches text at → Reaches text (at + 1)
reaches_on text at lt f r =
    let x = slice_index text at in
    let later = drop (at + 1) text in
    let cut : drop at text ≡ x ∷ later = drop-cons text at 0 lt ∙ ap (λ (n : ℕ). x ∷ drop n text) (sym (add-one at)) in
    let longer : take (at + 1) text ≡ take at text ++ x ∷ [] = grind (arith, common_steps, lt) in
    let first : node_of (x ∷ later) ≡ x ∷ node_of later = rw f refl in
    let behind_it : after_node (x ∷ later) ≡ after_node later = rw f refl in
    record {
      node = r.node ∙ ap (λ (z : List ℕ). take at text ++ node_of z) cut ∙ ap (λ (z : List ℕ). take at text ++ z) first ∙ sym (append_assoc (take at text) (x ∷ []) (node_of later)) ∙ ap (λ (z : List ℕ). z ++ node_of later) (sym longer);
      rest = r.rest ∙ ap after_node cut ∙ behind_it;
    }

pub reaches_colon : (text : List ℕ) (at : ℕ) → at < length text → slice_index text at ≡ 58 → Reaches text at → (take at text ≡ node_of text) × (drop at text ≡ after_node text)
reaches_colon text at lt e r =
    let later = drop (suc at) text in
    let cut : drop at text ≡ 58 ∷ later = drop-cons text at 0 lt ∙ ap (λ (x : ℕ). x ∷ later) e in (
      sym (r.node ∙ ap (λ (z : List ℕ). take at text ++ node_of z) cut ∙ append-nil (take at text)),
      cut ∙ sym (r.rest ∙ ap after_node cut),
    )

pub reaches_end : (text : List ℕ) (at n : ℕ) → length text ≤ at → n ≡ length text → Reaches text at → (take n text ≡ node_of text) × (drop n text ≡ after_node text)
reaches_end text at n le e r =
    let none : drop at text ≡ [] = drop_all at text le in
    let all : take n text ≡ take at text = grind (arith, common_steps, le, e) in
    let nothing : drop n text ≡ [] = drop_all n text (omega (arith, e)) in (
      all ∙ sym (r.node ∙ ap (λ (z : List ℕ). take at text ++ node_of z) none ∙ append-nil (take at text)),
      nothing ∙ sym (r.rest ∙ ap after_node none),
    )

-- ---- the nodes of a header

name_plain : (x : ℕ) → is_name_byte x ≡ true → (x == 58) ≡ false
name_plain x h = grind (arith, nat_tests, h)

letter_name : (x : ℕ) → is_letter x ≡ true → is_name_byte x ≡ true
letter_name x h = rw h refl

pub both_true : (a b : Bool) → (a && b) ≡ true → (a ≡ true) × (b ≡ true)
both_true true true h = (refl, refl)
both_true true false h = absurd (cc (h))
both_true false b h = absurd (cc (h))

behind_cut : (nodes : List (List ℕ)) → (node_of (behind nodes) ≡ []) × (after_node (behind nodes) ≡ behind nodes)
behind_cut [] = (refl, refl)
behind_cut (n ∷ ns) = (refl, refl)

name_cut : (word : List ℕ) (nodes : List (List ℕ)) → all_name word ≡ true → (node_of (word ++ behind nodes) ≡ word) × (after_node (word ++ behind nodes) ≡ behind nodes)
name_cut [] nodes h = behind_cut nodes
name_cut (x ∷ word) nodes h =
    let p = both_true (is_name_byte x) (all_name word) h in
    let later = name_cut word nodes p.1 in
    let f = name_plain x p.0 in
    (rw f (ap (λ (z : List ℕ). x ∷ z) later.0), rw f later.1)

pub node_cut : (node : List ℕ) (nodes : List (List ℕ)) → is_node node ≡ true → (node_of (node ++ behind nodes) ≡ node) × (after_node (node ++ behind nodes) ≡ behind nodes)
node_cut [] nodes h = absurd (cc (h))
node_cut (x ∷ node) nodes h =
    let p = both_true (is_letter x) (all_name node) h in
    name_cut (x ∷ node) nodes (rw (letter_name x p.0) p.1)

-- where nothing follows a node, there are no more nodes
pub no_more : (nodes : List (List ℕ)) (rest : List ℕ) → rest ≡ behind nodes → length rest ≡ 0 → nodes ≡ []
no_more [] rest e l = refl
no_more (n ∷ ns) rest e l = absurd (omega (arith, ap length e, l))

-- where something follows it, that is a `:` and the other nodes
pub some_more : (nodes : List (List ℕ)) (x : ℕ) (others : List ℕ) → behind nodes ≡ x ∷ others → (n : List ℕ) × (ns : List (List ℕ)) × (nodes ≡ n ∷ ns) × (others ≡ n ++ behind ns)
some_more [] x others e = absurd (cc (e))
some_more (n ∷ ns) x others e = (n, ns, refl, cc (e))
