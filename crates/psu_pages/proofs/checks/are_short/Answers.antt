use Rattle.std.proofs.Common.{◌≤◌, List, [], ◌∷◌, ℕ, length, get_or, take, sym, ap, subst, arith}
use Rattle.std.proofs.lemmas.List.{take_all, take_more}
use Rattle.psu_pages.specs.Image.{Head, AreShort, key_most}
use Rattle.psu_pages.proofs.Lists.{all_at, all_join}
use Rattle.psu_pages.proofs.checks.are_short.Goals as goal

pub returns-then-key-most-clause-no : goal.returns-then-key-most-clause-no
returns-then-key-most-clause-no g c = λ no short.
    let l = c.loop-head in
    let here = all_at (λ (h : Head). length h.key ≤ key_most c.args.version) c.args.heads.now l.head-index c.head-item.result c.loop-head-test.true short in
    omega (arith, here, ap (λ (h : Head). length h.key) c.head-item.is, ap (λ (k : List ℕ). length k) c.key.ensures, c.if-key-most.true, l.invariant.0)

pub loop-head-preserved : goal.loop-head-preserved
loop-head-preserved g c =
    let l = c.loop-head in
    let heads = c.args.heads.now in
    let i = l.head-index in
    let last = get_or heads i c.head-item.result in
    let here : length last.key ≤ key_most c.args.version = omega (arith, ap (λ (h : Head). length h.key) c.head-item.is, ap (λ (k : List ℕ). length k) c.key.ensures, c.if-key-most.false, l.invariant.0) in
    (l.invariant.0, subst (AreShort c.args.version) (sym (take_more heads i c.head-item.result c.loop-head-test.true)) (all_join (λ (h : Head). length h.key ≤ key_most c.args.version) (take i heads) (last ∷ []) l.invariant.1 (here, tt)))

pub returns-clause-yes : goal.returns-clause-yes
returns-clause-yes g c = λ yes. let l = c.loop-head in subst (AreShort c.args.version) (take_all l.head-index c.args.heads.now (omega (arith, c.loop-head-test.false))) l.invariant.1
