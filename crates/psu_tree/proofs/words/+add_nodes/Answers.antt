use Rattle.std.proofs.Common.{◌≡◌, ◌<◌, [], ◌∷◌, ◌++◌, ℕ, List, Bor, length, sym, ap, ◌∙◌, subst, append_assoc, arith}
use Rattle.std.specs.Prelude.{map, MatchBool}
use Rattle.std.proofs.lemmas.List.{map-append}
use Rattle.std.proofs.lemmas.Grind.{common_steps}
use Rattle.psu_lex.specs.Syntax.{all_nodes, behind, is_node}
use Rattle.psu_tree.specs.Scans.{after_node, node_of}
use Rattle.psu_tree.proofs.Nodes.{node_cut, no_more, some_more, both_true}
use Rattle.psu_tree.proofs.words.«+add_nodes».Goals as goal

abbrev text_of : Bor (List ℕ) → List ℕ
text_of word = word.now

pub returns-in_default : goal.returns-in_default
returns-in_default t c = λ node nodes h hs e.
    let cut = node_cut node nodes h in
    let first : c.split_at.result.0.now ≡ node = c.split_at.ensures.front ∙ c.node_end.ensures.node ∙ ap node_of e ∙ cut.0 in
    let rest : c.split_at.result.1.now ≡ behind nodes = c.split_at.ensures.back ∙ c.node_end.ensures.rest ∙ ap after_node e ∙ cut.1 in
    let pushed : c.try_push.new.self.items ≡ c.args.words.now.items ++ c.split_at.result.0 ∷ [] = grind (arith, common_steps) in
    let none : nodes ≡ [] = no_more nodes c.split_at.result.1.now rest c.in_default.ensures.cases in
    ap (map text_of) pushed ∙ map-append text_of c.args.words.now.items (c.split_at.result.0 ∷ []) ∙ ap (λ (z : List (List ℕ)). map text_of c.args.words.now.items ++ z) (ap (λ (z : List ℕ). z ∷ []) first ∙ ap (λ (z : List (List ℕ)). node ∷ z) (sym none))

pub returns : goal.returns
returns t c = λ node nodes h hs e.
    let cut = node_cut node nodes h in
    let first : c.split_at.result.0.now ≡ node = c.split_at.ensures.front ∙ c.node_end.ensures.node ∙ ap node_of e ∙ cut.0 in
    let rest : c.split_at.result.1.now ≡ behind nodes = c.split_at.ensures.back ∙ c.node_end.ensures.rest ∙ ap after_node e ∙ cut.1 in
    let pushed : c.try_push.new.self.items ≡ c.args.words.now.items ++ c.split_at.result.0 ∷ [] = grind (arith, common_steps) in
    let more = some_more nodes c.in-Some.field-0-0.now c.in-Some.others.now (sym rest ∙ c.in-Some.ensures.cases.0) in
    let good = both_true (is_node more.0) (all_nodes more.1) (ap all_nodes (sym more.2) ∙ hs) in
    let old = map text_of c.args.words.now.items in
    let words : map text_of c.try_push.new.self.items ++ more.0 ∷ more.1 ≡ old ++ node ∷ nodes
    = ap (λ (z : List (List ℕ)). z ++ more.0 ∷ more.1) (ap (map text_of) pushed ∙ map-append text_of c.args.words.now.items (c.split_at.result.0 ∷ []) ∙ ap (λ (z : List ℕ). old ++ z ∷ []) first)
    ∙ append_assoc old (node ∷ []) (more.0 ∷ more.1) ∙ ap (λ (z : List (List ℕ)). old ++ node ∷ z) (sym more.2) in
    subst (λ (z : List (List ℕ)). MatchBool c.add_nodes.result (map text_of c.add_nodes.new.words.items ≡ z) (5 < length z)) words (c.add_nodes.ensures more.0 more.1 good.0 good.1 more.3)
