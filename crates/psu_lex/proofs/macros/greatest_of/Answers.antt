use Rattle.std.proofs.Common.{◌≡◌, ℕ, List, [], ◌-◌, max, sym, ◌∙◌, refl, subst, arith, slice_index}
use Rattle.psu_lex.specs.MacroScan.{Spells}
use Rattle.psu_lex.proofs.Expansions.{spells_end, spells_placeholder, respelled}
use Rattle.psu_lex.proofs.macros.greatest_of.Goals as goal

pub loop-rest-init : goal.loop-rest-init
loop-rest-init c = λ most text s. (text, respelled [] c.args.body.now most (max 0 most) text text (omega arith) refl s)

pub loop-rest-preserved-then-is_placeholder : goal.loop-rest-preserved-then-is_placeholder
loop-rest-preserved-then-is_placeholder c = λ most text s.
    let rest = c.loop-rest.rest.now in
    let found = spells_placeholder [] rest most text (sym c.is_placeholder.ensures ∙ c.if-is_placeholder.true) (subst (λ (z : List ℕ). Spells [] z most text) c.after-rest.ensures s) in
    let all = c.loop-rest.invariant _ _ found in
    let same : max c.max-most.result most ≡ max c.loop-rest.most (max (slice_index rest 1 - 48) most) = omega (arith, c.max-most.ensures) in
    (all.0, respelled [] c.args.body.now _ _ all.0 all.0 same refl all.1)

pub loop-rest-preserved : goal.loop-rest-preserved
loop-rest-preserved c = λ most text s.
    c.loop-rest.invariant most _ (c.verbatim.ensures.kept [] most text (subst (λ (z : List ℕ). Spells [] z most text) c.after-rest-in-loop-rest.ensures s))

pub returns : goal.returns
returns c =
    let all = c.loop-rest.invariant 0 [] (spells_end [] c.loop-rest.rest.now c.is_empty.result c.is_empty.ensures c.loop-rest-test.false) in
    (all.0, respelled [] c.args.body.now _ c.loop-rest.most all.0 all.0 (omega arith) refl all.1)
