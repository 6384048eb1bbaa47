use Rattle.std.proofs.Common.{◌≡◌, ◌≢◌, ℕ, List, [], ◌∷◌, true, false, get_or, take, sym, ◌∙◌, ap, subst, arith}
use Rattle.std.proofs.lemmas.Slice.Eq.{bytes_eq-Decides}
use Rattle.psu_pages.specs.Image.{Head, keys, IsNone}
use Rattle.psu_pages.proofs.Lists.{all_join}
use Rattle.psu_pages.proofs.Taken.{key_differs, keys_more}
use Rattle.std.proofs.lemmas.List.{take_all}
use Rattle.psu_pages.proofs.checks.has_key.Goals as goal

pub returns-then-eq-clause-yes : goal.returns-then-eq-clause-yes
returns-then-eq-clause-yes g c = λ yes none.
    let heads = c.args.heads.now in
    let same : c.key.result.now ≡ c.args.key.now = (bytes_eq-Decides c.key.result.now c.args.key.now).0 (sym c.if-eq.ensures) in
    key_differs c.args.key.now heads c.loop-head.head-index c.head-item.result c.loop-head-test.true none (sym same ∙ c.key.ensures ∙ ap (λ (h : Head). h.key) c.head-item.is)

pub loop-head-preserved : goal.loop-head-preserved
loop-head-preserved g c =
    let heads = c.args.heads.now in
    let key = c.args.key.now in
    let i = c.loop-head.head-index in
    let is : c.key.result.now ≡ (let h = get_or heads i c.head-item.result in h.key) = c.key.ensures ∙ ap (λ (h : Head). h.key) c.head-item.is in
    let other : key ≢ (let h = get_or heads i c.head-item.result in h.key) = λ same. let no : false ≡ true = c.if-eq.ensures ∙ (bytes_eq-Decides c.key.result.now key).1 (is ∙ sym same) in absurd (cc) in
    subst (λ (ks : List (List ℕ)). IsNone ks key) (sym (keys_more heads i c.head-item.result c.loop-head-test.true))
    (all_join (λ (k : List ℕ). key ≢ k) (keys (take i heads)) ((let h = get_or heads i c.head-item.result in h.key) ∷ []) c.loop-head.invariant (other, tt))

pub returns-clause-no : goal.returns-clause-no
returns-clause-no g c = λ no. let l = c.loop-head in subst (λ (hs : List Head). IsNone (keys hs) c.args.key.now) (take_all l.head-index c.args.heads.now (omega (arith, c.loop-head-test.false))) l.invariant
