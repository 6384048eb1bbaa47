use Rattle.std.proofs.Common.{refl, sym, ap, ◌∙◌, subst, inl, inr, ◌+◌, ◌-◌, slice_index, drop}
use Rattle.psu_lex.specs.Data.{IsBlockOf}
use Rattle.psu_lex.proofs.PieceScans.{hash_first, no_block, not_all, block_of}
use Rattle.psu_lex.proofs.blocks.block.Goals as goal

pub returns-in_default-clause-err : goal.returns-in_default-clause-err
returns-in_default-clause-err g c =
    let text = hash_first c.args.text.now c.after-rest.result.now (sym c.begins.ensures ∙ c.if-not-begins.false) c.after-rest.ensures in
    inr (refl, λ bytes. no_block c.args.text.now c.after-rest.result.now bytes text c.in_default.ensures.none)

pub returns-then-not-is_all-clause-err : goal.returns-then-not-is_all-clause-err
returns-then-not-is_all-clause-err g c =
    let text = hash_first c.args.text.now c.after-rest.result.now (sym c.begins.ensures ∙ c.if-not-begins.false) c.after-rest.ensures in
    inr (refl, λ bytes. not_all c.args.text.now c.after-rest.result.now bytes c.in-Some.end text c.in-Some.ensures.within c.in-Some.ensures.some (sym c.is_all.ensures ∙ c.if-not-is_all.true))

pub returns-in-Ok-clause-ok : goal.returns-in-Ok-clause-ok
returns-in-Ok-clause-ok g c =
    let rest = c.after-rest.result.now in
    let text = hash_first c.args.text.now rest (sym c.begins.ensures ∙ c.if-not-begins.false) c.after-rest.ensures in
    let is = c.in-Ok.ensures.ok ∙ c.after-content.ensures ∙ ap (drop (1 + (slice_index rest 0 - 48))) c.front.ensures in
    subst (IsBlockOf c.args.text.now) (sym is) (block_of c.args.text.now rest c.in-Some.end text c.in-Some.ensures.some (sym c.is_all.ensures ∙ c.if-not-is_all.false))

pub returns-in-Err-clause-err : goal.returns-in-Err-clause-err
returns-in-Err-clause-err g c =
    let text = hash_first c.args.text.now c.after-rest.result.now (sym c.begins.ensures ∙ c.if-not-begins.false) c.after-rest.ensures in
    inl (refl, _, block_of c.args.text.now c.after-rest.result.now c.in-Some.end text c.in-Some.ensures.some (sym c.is_all.ensures ∙ c.if-not-is_all.false))
