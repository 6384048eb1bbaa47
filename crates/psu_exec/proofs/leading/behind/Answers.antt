use Rattle.std.proofs.Common.{refl, sym, ◌∙◌}
use Rattle.psu_map.proofs.Keys.{same_key}
use Rattle.psu_exec.proofs.Plans.{with_first}
use Rattle.psu_exec.proofs.leading.behind.Goals as goal

pub returns-then-same_value-clause-some : goal.returns-then-same_value-clause-some
returns-then-same_value-clause-some g c =
    with_first c.args.edits.now c.first-item.result _ _ c.in-len1-up.len_at_least c.first-item.is (sym c.key.ensures ∙ same_key c.key.result.now c.args.key.now (sym c.if-eq.ensures)) (sym c.value.ensures ∙ c.if-same_value.ensures.0 refl)
