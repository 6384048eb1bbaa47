use Rattle.std.proofs.Common.{◌≡◌, ◌<◌, ◌+◌, ◌++◌, ◌∷◌, ◌∙◌, List, ℕ, Bor, ap, length, map, length-append, arith}
use Rattle.std.proofs.lemmas.Bool.Decides.{nat_tests}
use Rattle.std.proofs.lemmas.List.{length-map}
use Rattle.psu_lex.specs.Syntax.{Datum}
use Rattle.psu_instrument.specs.Macros.{written}
use Rattle.psu_instrument.proofs.expansion.parameters.Goals as goal

one_more : (list others rest : List Datum) (datum : Datum) (texts : List (Bor (List ℕ))) → written list ≡ map (λ text. text.now) texts ++ written others → others ≡ datum ∷ rest → length texts ≡ 9 → 9 < length list
one_more list others rest datum texts all some nine =
    let whole : length (written list) ≡ length (map (λ (t : Bor (List ℕ)). t.now) texts) + length (written others) = ap length all ∙ length-append (map (λ (t : Bor (List ℕ)). t.now) texts) (written others) in
    omega (arith, whole, nine, length-map list (λ (d : Datum). d.text), length-map texts (λ (t : Bor (List ℕ)). t.now), length-map others (λ (d : Datum). d.text), ap length some)

pub returns-then-is_full-clause-many : goal.returns-then-is_full-clause-many
returns-then-is_full-clause-many c = λ list holds.
    let so_far = c.loop-datum.invariant list holds in
    let next = c.in-Some.ensures so_far.0 so_far.1 in
    let nine : length c.loop-datum.texts.items ≡ 9 = grind (arith, nat_tests, c.is_full.ensures.value, c.if-is_full.true) in
    one_more list so_far.0 next.0 _ c.loop-datum.texts.items so_far.2 next.1 nine
