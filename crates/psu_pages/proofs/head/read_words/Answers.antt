use Rattle.std.proofs.Common.{ℕ, ◌+◌, ◌*◌, List, [], ◌∷◌, ◌++◌, refl, sym, ◌∙◌, ap, arith}
use Rattle.psu_pages.specs.Image.{words}
use Rattle.psu_pages.proofs.Numbers.{words_at}
use Rattle.psu_pages.proofs.head.read_words.Goals as goal

pub loop-i-preserved : goal.loop-i-preserved
loop-i-preserved g c =
    let i = c.loop-i.i in
    let bytes = c.args.bytes.now in
    c.in_ok-push.ensures.items
    ∙ ap (λ (l : List ℕ). l ++ c.from_be_bytes.result ∷ []) c.loop-i.invariant
    ∙ ap (λ (n : ℕ). words i bytes ++ n ∷ []) c.from_be_bytes.ensures
    ∙ sym (words_at i (2 * i) (2 * i + 1) (i + 1) bytes refl (omega arith) (omega arith) (omega (arith, c.requires, c.loop-i-test.true)))
