use Rattle.std.proofs.Common.{List, sym, subst}
use Rattle.psu_map.specs.Batch.{Edit, KeepsValue}
use Rattle.psu_map.proofs.FirstTarget.{keeps_first, keeps_rest}
use Rattle.psu_map.proofs.target.Target.of.Goals as goal

pub returns-in_ok-make_all-in-len1-up-clause-standing : goal.returns-in_ok-make_all-in-len1-up-clause-standing
returns-in_ok-make_all-in-len1-up-clause-standing g c = λ key value had keeps.
    let edits = c.edits.result.now in
    let kept = subst (λ (es : List Edit). KeepsValue es key value) (sym c.edits.ensures) keeps in
    c.in_ok-make_all-in-len1-up.ensures.standing key value (c.in_ok-target-in-len1-up.ensures.standing key value had (keeps_first edits c.first-item.result key value c.in-len1-up.len_at_least c.first-item.is kept)) (keeps_rest edits key value kept)
