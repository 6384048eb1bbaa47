use Rattle.std.proofs.Common.{◌≡◌, ℕ, List, ◌++◌, length, take, sym, ◌∙◌, ap, append_assoc, arith, length-append}
use Rattle.std.proofs.lemmas.List.{length-take-le}
use Rattle.psu_pages.specs.Spelling.{spelled_words}
use Rattle.psu_pages.proofs.Numbers.{spelled_more}
use Rattle.psu_pages.proofs.Spelling.{length-spelled_words}
use Rattle.psu_pages.proofs.head.add_words.Goals as goal

pub add-requires : goal.add-requires
add-requires c =
    let l = c.loop-word in
    let words = c.args.words.now in
    let done = take l.word-index words in
    let few : length done ≡ l.word-index = length-take-le l.word-index words (omega (arith, c.loop-word-test.true)) in
    omega (arith, ap length l.invariant, length-append c.args.page.now (spelled_words done), length-spelled_words done, few, c.loop-word-test.true, c.requires, ap length c.to_be_bytes.ensures)

pub loop-word-preserved : goal.loop-word-preserved
loop-word-preserved c =
    let l = c.loop-word in
    let words = c.args.words.now in
    let done = take l.word-index words in
    c.add.ensures
    ∙ ap (λ (p : List ℕ). p ++ c.to_be_bytes.result) l.invariant
    ∙ append_assoc c.args.page.now (spelled_words done) c.to_be_bytes.result
    ∙ ap (λ (b : List ℕ). c.args.page.now ++ (spelled_words done ++ b)) c.to_be_bytes.ensures
    ∙ ap (λ (b : List ℕ). c.args.page.now ++ b) (sym (spelled_more l.word-index 0 words c.loop-word-test.true))
