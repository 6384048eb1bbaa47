use Rattle.std.proofs.Common.{rules}
use Rattle.psu_locks.proofs.Deadlines.{next_fails}
use Rattle.psu_locks.proofs.lock_table.LockTable.next_deadline.Goals as goal

pub returns-clause-deadline : goal.returns-clause-deadline
returns-clause-deadline c = search rules

pub returns-clause-first : goal.returns-clause-first
returns-clause-first c = next_fails c.args.self.now.waiting _ (returns-clause-deadline c)
