use Rattle.std.proofs.Common.{[], sym, ◌∙◌, append-nil}
use Rattle.std.specs.List.{flat_map}
use Rattle.psu_exec.specs.Batch.{assignment}
use Rattle.psu_exec.proofs.Plans.{not_next}
use Rattle.psu_exec.proofs.leading.are_assignments.Goals as goal

pub returns-in-None : goal.returns-in-None
returns-in-None g c =
    let f = assignment c.args.before.now.map in
    let all = flat_map f c.args.pairs.now in
    (λ t. cc, λ e. absurd (not_next f c.args.pairs.now c.loop-pair.pair-index c.pair-item.result _ _ c.loop-pair-test.true c.pair-item.is c.loop-pair.invariant c.in-None.ensures.none [] (e ∙ sym (append-nil all))))
