use Rattle.psu_locks.proofs.WaitingRequests.{filtered}
use Rattle.psu_locks.proofs.Settled.{looked}
use Rattle.psu_locks.proofs.lock_table.LockTable.drop_session.Goals as goal

pub invariant_of-self : goal.invariant_of-self
invariant_of-self c = rw (c.look_through.ensures.kept, c.look_through.ensures.holders, c.keep_others.ensures) (looked (record { holders = c.self.inside.holders; waiting = c.self.inside.waiting.items; latest = c.self.inside.latest }) _ _ (filtered _ c.self.inside.waiting.items c.self.invariant.one_each))

pub returns-clause-settled : goal.returns-clause-settled
returns-clause-settled c = invariant_of-self c
