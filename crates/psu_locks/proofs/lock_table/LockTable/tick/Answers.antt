use Rattle.psu_locks.proofs.Settled.{ticked}
use Rattle.psu_locks.proofs.lock_table.LockTable.tick.Goals as goal

pub invariant_of-self : goal.invariant_of-self
invariant_of-self c = rw c.fail_at.ensures.kept (ticked c.self.inside.holders c.self.inside.waiting.items c.self.inside.latest _ _ c.self.invariant)

pub returns-clause-settled : goal.returns-clause-settled
returns-clause-settled c = invariant_of-self c
