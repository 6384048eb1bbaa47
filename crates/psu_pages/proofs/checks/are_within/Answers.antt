use Rattle.std.proofs.Common.{◌+◌, ℕ, List, length, get_or, take, ap, arith, length-append}
use Rattle.psu_pages.specs.Image.{Head, taken, pages_of}
use Rattle.psu_pages.proofs.Taken.{taken_more, taken_few}
use Rattle.std.proofs.lemmas.List.{take_all}
use Rattle.psu_pages.proofs.checks.are_within.Goals as goal

pub returns-then-pages-left-clause-no : goal.returns-then-pages-left-clause-no
returns-then-pages-left-clause-no g c = λ _ fits.
    let l = c.loop-head in
    let heads = c.args.heads.now in
    let i = l.head-index in
    let more = ap (λ (ps : List ℕ). length ps) (taken_more heads i c.head-item.result c.loop-head-test.true) in
    let one = ap (λ (h : Head). length h.pages) c.head-item.is in
    omega (arith, fits, l.invariant, more, length-append (taken (take i heads)) (pages_of (get_or heads i c.head-item.result)), one, ap (λ (ps : List ℕ). length ps) c.pages.ensures, c.if-pages-left.true, taken_few heads (i + 1))

pub loop-head-preserved : goal.loop-head-preserved
loop-head-preserved g c =
    let l = c.loop-head in
    let heads = c.args.heads.now in
    let i = l.head-index in
    let more = ap (λ (ps : List ℕ). length ps) (taken_more heads i c.head-item.result c.loop-head-test.true) in
    let one = ap (λ (h : Head). length h.pages) c.head-item.is in
    omega (arith, l.invariant, more, length-append (taken (take i heads)) (pages_of (get_or heads i c.head-item.result)), one, ap (λ (ps : List ℕ). length ps) c.pages.ensures, c.if-pages-left.false)

pub returns-clause-yes : goal.returns-clause-yes
returns-clause-yes g c = λ yes. let l = c.loop-head in omega (arith, l.invariant, ap (λ (hs : List Head). length (taken hs)) (take_all l.head-index c.args.heads.now (omega (arith, c.loop-head-test.false))))
