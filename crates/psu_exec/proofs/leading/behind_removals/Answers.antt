use Rattle.psu_exec.specs.Batch.{removal}
use Rattle.psu_exec.proofs.Plans.{not_next}
use Rattle.psu_exec.proofs.leading.behind_removals.Goals as goal

pub returns-in-None-clause-none : goal.returns-in-None-clause-none
returns-in-None-clause-none g c =
    not_next (removal c.args.target.now) c.args.pairs.now c.loop-pair.pair-index c.pair-item.result _ _ c.loop-pair-test.true c.pair-item.is c.loop-pair.invariant c.in-None.ensures.none
