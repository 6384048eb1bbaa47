use Rattle.std.proofs.Common.{get_or, take, sym, ◌∙◌, ap, subst, arith, List}
use Rattle.psu_pages.specs.Image.{Head, keys, IsNone, AreApart}
use Rattle.psu_pages.proofs.Lists.{apart_more}
use Rattle.psu_pages.proofs.Taken.{keys_before, keys_more}
use Rattle.std.proofs.lemmas.List.{take_all}
use Rattle.psu_pages.proofs.checks.are_distinct.Goals as goal

pub returns-then-has_key-clause-no : goal.returns-then-has_key-clause-no
returns-then-has_key-clause-no g c = λ no apart.
    let heads = c.args.heads.now in
    let i = c.loop-i.i in
    let is = c.key.ensures ∙ ap (λ (h : Head). h.key) c.index-heads-i.is in
    c.has_key.ensures.yes c.if-has_key.true (subst (IsNone (keys (take i heads))) (sym is) (keys_before heads i c.index-heads-i.result c.loop-i-test.true apart))

pub loop-i-preserved : goal.loop-i-preserved
loop-i-preserved g c =
    let heads = c.args.heads.now in
    let i = c.loop-i.i in
    let is = c.key.ensures ∙ ap (λ (h : Head). h.key) c.index-heads-i.is in
    subst AreApart (sym (keys_more heads i c.index-heads-i.result c.loop-i-test.true))
    (apart_more (keys (take i heads)) (let h = get_or heads i c.index-heads-i.result in h.key) c.loop-i.invariant (subst (IsNone (keys (take i heads))) is (c.has_key.ensures.no c.if-has_key.false)))

pub returns-clause-yes : goal.returns-clause-yes
returns-clause-yes g c = λ yes. let l = c.loop-i in subst (λ (hs : List Head). AreApart (keys hs)) (take_all l.i c.args.heads.now (omega (arith, c.loop-i-test.false))) l.invariant
