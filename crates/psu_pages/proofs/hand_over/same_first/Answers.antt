use Rattle.std.proofs.Common.{◌≡◌, ◌<◌, ℕ, List, ◌++◌, length, get_or, take, sym, ◌∙◌, ap, arith}
use Rattle.psu_pages.specs.Image.{pages_of, taken}
use Rattle.psu_pages.proofs.Taken.{taken_more}
use Rattle.psu_pages.proofs.hand_over.same_first.Goals as goal

pub loop-i-preserved : goal.loop-i-preserved
loop-i-preserved g c =
    let i = c.loop-i.i in
    let older = c.args.older.now in
    let heads = c.args.heads.now in
    let here = c.index-older-i in
    let there = c.index-heads-i in
    let within : i < length older = omega (arith, c.loop-i-test.true, c.min-most.ensures) in
    let within' : i < length heads = omega (arith, c.loop-i-test.true, c.min-most.ensures) in
    let same : pages_of (get_or older i here.result) ≡ pages_of (get_or heads i there.result) = ap pages_of (sym here.is) ∙ c.has_same_pages.ensures.0 c.if-not-has_same_pages.false ∙ ap pages_of there.is in
    taken_more older i here.result within
    ∙ ap (λ (l : List ℕ). l ++ pages_of (get_or older i here.result)) c.loop-i.invariant
    ∙ ap (λ (l : List ℕ). taken (take i heads) ++ l) same
    ∙ sym (taken_more heads i there.result within')
