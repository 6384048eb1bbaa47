use Rattle.std.proofs.Common.{◌≡◌, ◌<◌, ℕ, List, true, false, length, get_or, take, sym, subst, arith}
use Rattle.std.specs.List.{AllByRecursion}
use Rattle.psu_pages.specs.Image.{Head, AreApart, pages_of, taken}
use Rattle.psu_pages.specs.Free.{is_free, AreClaimed, Marks}
use Rattle.psu_pages.proofs.Marking.{marks_both, claimed_still}
use Rattle.psu_pages.proofs.Taken.{taken_all, taken_apart, taken_clear, taken_more}
use Rattle.std.proofs.lemmas.List.{take_all}
use Rattle.psu_pages.proofs.hand_over.release.Goals as goal

pub free_head-requires-clause-there : goal.free_head-requires-clause-there
free_head-requires-clause-there g c =
    let l = c.loop-head in
    let heads = c.args.heads.now in
    let P : ℕ → Type 0 = λ (p : ℕ). p < length l.free in
    subst (λ (h : Head). AllByRecursion P (pages_of h)) (sym c.head-item.is)
    (taken_all P heads l.head-index c.head-item.result c.loop-head-test.true (subst (λ (n : ℕ). AllByRecursion (λ (p : ℕ). p < n) (taken heads)) (sym l.invariant.size) c.requires.there))

pub free_head-requires-clause-claimed : goal.free_head-requires-clause-claimed
free_head-requires-clause-claimed g c =
    let l = c.loop-head in
    let heads = c.args.heads.now in
    subst (λ (h : Head). AreClaimed l.free (pages_of h)) (sym c.head-item.is)
    (claimed_still true (taken (take l.head-index heads)) (pages_of (get_or heads l.head-index c.head-item.result)) c.args.free.now l.free l.invariant (taken_all (λ (p : ℕ). is_free c.args.free.now p ≡ false) heads l.head-index c.head-item.result c.loop-head-test.true c.requires.claimed) (taken_clear heads l.head-index c.head-item.result c.loop-head-test.true c.requires.apart))

pub free_head-requires-clause-apart : goal.free_head-requires-clause-apart
free_head-requires-clause-apart g c =
    subst (λ (h : Head). AreApart (pages_of h)) (sym c.head-item.is) (taken_apart c.args.heads.now c.loop-head.head-index c.head-item.result c.loop-head-test.true c.requires.apart)

pub loop-head-preserved : goal.loop-head-preserved
loop-head-preserved g c =
    let l = c.loop-head in
    let heads = c.args.heads.now in
    subst (λ (ps : List ℕ). Marks true ps c.args.free.now c.free_head.new.self) (sym (taken_more heads l.head-index c.head-item.result c.loop-head-test.true))
    (marks_both true _ _ c.args.free.now l.free c.free_head.new.self l.invariant (subst (λ (h : Head). Marks true (pages_of h) l.free c.free_head.new.self) c.head-item.is c.free_head.ensures))

pub returns : goal.returns
returns g c = let l = c.loop-head in subst (λ (hs : List Head). Marks true (taken hs) c.args.free.now l.free) (take_all l.head-index c.args.heads.now (omega (arith, c.loop-head-test.false))) l.invariant
