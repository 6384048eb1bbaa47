use Rattle.std.proofs.Common.{◌≡◌, true, Bool, ℕ, List, Bor, map, ap, sym, subst, ◌∙◌, refl}
use Rattle.std.specs.Prelude.{◌↔◌}
use Rattle.std.proofs.lemmas.List.{nil_from_length}
use Rattle.psu_tree.specs.Headers.{Matches, fits}
use Rattle.psu_tree.specs.Shown.{mnemonic}
use Rattle.psu_tree.proofs.Matching.{matches_first, same_match}
use Rattle.psu_tree.proofs.walks.«+walk».Goals as goal

pub returns-in_default-clause-matches : goal.returns-in_default-clause-matches
returns-in_default-clause-matches t c =
    let nodes : _ = map mnemonic c.args.nodes.now in
    let words : List (List ℕ) = map (λ (word : Bor (List ℕ)). word.now) c.args.words.now in
    let none : _ = sym (ap (map (λ (word : Bor (List ℕ)). word.now)) (nil_from_length c.args.words.now c.in_default.ensures.cases)) in
    subst (λ (b : Bool). (b ≡ true) ↔ Matches nodes words) (sym (c.may_miss_all.ensures ∙ ap (fits nodes) none)) (same_match nodes words)

pub returns-then-are_spent-clause-matches : goal.returns-then-are_spent-clause-matches
returns-then-are_spent-clause-matches t c =
    let of : _ = matches_first (map mnemonic c.args.nodes.now) (map mnemonic c.in-Some-split_first.later.now) (mnemonic c.in-Some-split_first.node.now) (map (λ (word : Bor (List ℕ)). word.now) c.args.words.now)
    (map (λ (word : Bor (List ℕ)). word.now) c.in-Some.others.now) c.in-Some.word.now.now (ap (map mnemonic) c.in-Some-split_first.ensures.cases.0)
    (ap (map (λ (word : Bor (List ℕ)). word.now)) c.in-Some.ensures.cases.0) (sym c.is_named-named.ensures ∙ c.if-named.true) (c.are_spent.ensures c.if-are_spent.true) in
    (λ _. of, λ _. refl)
