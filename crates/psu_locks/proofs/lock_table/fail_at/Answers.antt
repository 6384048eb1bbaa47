use Rattle.std.proofs.Common.{rules}
use Rattle.arrayvec.proofs.ArrayVecLemmas.{filter-from_retain}
use Rattle.psu_locks.proofs.lock_table.fail_at.Goals as goal

pub returns-clause-kept : goal.returns-clause-kept
returns-clause-kept c = filter-from_retain _ _ _ (λ x b f' y called. search rules) _ _ c.retain.ensures.filtered
