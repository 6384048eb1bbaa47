use Rattle.std.proofs.Common.{◌<◌, ℕ, List, false, length, sym, subst, arith}
use Rattle.std.specs.List.{AllByRecursion}
use Rattle.std.proofs.lemmas.List.{take_all}
use Rattle.psu_pages.specs.Image.{Head, pages_of, taken}
use Rattle.psu_pages.specs.Free.{Marks}
use Rattle.psu_pages.proofs.Marking.{marks_both}
use Rattle.psu_pages.proofs.Taken.{taken_all, taken_more}
use Rattle.psu_pages.proofs.hand_over.keep.Goals as goal

pub keep_head-requires : goal.keep_head-requires
keep_head-requires g c =
    let l = c.loop-head in
    let heads = c.args.heads.now in
    let P : ℕ → Type 0 = λ (p : ℕ). p < length l.free in
    subst (λ (h : Head). AllByRecursion P (pages_of h)) (sym c.head-item.is)
    (taken_all P heads l.head-index c.head-item.result c.loop-head-test.true (subst (λ (n : ℕ). AllByRecursion (λ (p : ℕ). p < n) (taken heads)) (sym l.invariant.size) c.requires))

pub loop-head-preserved : goal.loop-head-preserved
loop-head-preserved g c =
    let l = c.loop-head in
    let heads = c.args.heads.now in
    subst (λ (ps : List ℕ). Marks false ps c.args.free.now c.keep_head.new.self) (sym (taken_more heads l.head-index c.head-item.result c.loop-head-test.true))
    (marks_both false _ _ c.args.free.now l.free c.keep_head.new.self l.invariant (subst (λ (h : Head). Marks false (pages_of h) l.free c.keep_head.new.self) c.head-item.is c.keep_head.ensures))

pub returns : goal.returns
returns g c = let l = c.loop-head in subst (λ (hs : List Head). Marks false (taken hs) c.args.free.now l.free) (take_all l.head-index c.args.heads.now (omega (arith, c.loop-head-test.false))) l.invariant
