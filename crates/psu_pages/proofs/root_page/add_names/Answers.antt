use Rattle.std.proofs.Common.{◌≡◌, ◌<◌, ℕ, List, ◌++◌, length, get_or, take, sym, ◌∙◌, ap, append_assoc, arith, length-append}
use Rattle.std.specs.Int.{w16, to_be_bytes}
use Rattle.std.proofs.lemmas.List.{length-take-le}
use Rattle.psu_pages.specs.Image.{Head}
use Rattle.psu_pages.specs.Spelling.{names, spelled_words}
use Rattle.psu_pages.proofs.Numbers.{spelled_more}
use Rattle.psu_pages.proofs.Spelling.{length-spelled_words}
use Rattle.psu_pages.proofs.Quiet.{length-names, name_at}
use Rattle.psu_pages.proofs.root_page.add_names.Goals as goal

pub add-requires : goal.add-requires
add-requires g c =
    let l = c.loop-head in
    let words = names c.args.heads.now in
    let within : l.head-index < length words = omega (arith, c.loop-head-test.true, length-names c.args.heads.now) in
    let done = take l.head-index words in
    let few : length done ≡ l.head-index = length-take-le l.head-index words (omega (arith, within)) in
    omega (arith, ap length l.invariant, length-append c.args.page.now (spelled_words done), length-spelled_words done, few, c.loop-head-test.true, c.requires, ap length c.to_be_bytes.ensures)

pub loop-head-preserved : goal.loop-head-preserved
loop-head-preserved g c =
    let l = c.loop-head in
    let heads = c.args.heads.now in
    let words = names heads in
    let within : l.head-index < length words = omega (arith, c.loop-head-test.true, length-names heads) in
    let done = take l.head-index words in
    let name : c.at.result ≡ get_or words l.head-index 0 = c.at.ensures ∙ ap (λ (h : Head). h.at) c.head-item.is ∙ sym (name_at heads l.head-index 0 _ c.loop-head-test.true) in
    c.add.ensures
    ∙ ap (λ (p : List ℕ). p ++ c.to_be_bytes.result) l.invariant
    ∙ append_assoc c.args.page.now (spelled_words done) c.to_be_bytes.result
    ∙ ap (λ (b : List ℕ). c.args.page.now ++ (spelled_words done ++ b)) (c.to_be_bytes.ensures ∙ ap (to_be_bytes w16) name)
    ∙ ap (λ (b : List ℕ). c.args.page.now ++ b) (sym (spelled_more l.head-index 0 words within))
