use Rattle.psu_map.proofs.Sorted.{set-is_put, insert-is_put, put_sorted, put_sets}
use Rattle.psu_map.proofs.items.Items.insert.Goals as goal

pub invariant_of-self : goal.invariant_of-self
invariant_of-self g c = put_sorted _ _ _ _ _ c.self.view_is c.self.invariant (set-is_put _ _ c.self.view_is _ _ _ c.deref.ensures.value _ _ c.new.ensures c.in-Ok.ensures.found)

pub returns-in-Ok-clause-ok : goal.returns-in-Ok-clause-ok
returns-in-Ok-clause-ok g c = set-is_put _ _ c.self.view_is _ _ _ c.deref.ensures.value _ _ c.new.ensures c.in-Ok.ensures.found

pub returns-in-Ok-clause-sets : goal.returns-in-Ok-clause-sets
returns-in-Ok-clause-sets g c = put_sets _ _ _ _ (set-is_put _ _ c.self.view_is _ _ _ c.deref.ensures.value _ _ c.new.ensures c.in-Ok.ensures.found)

pub invariant_of-self-in-Err : goal.invariant_of-self-in-Err
invariant_of-self-in-Err g c = rw c.in_ok-insert-in-Err.ensures.items (put_sorted _ _ _ _ _ c.self.view_is c.self.invariant (insert-is_put _ _ c.self.view_is _ _ _ c.deref.ensures.value _ _ c.new-in-Err.ensures c.in-Err.ensures.absent))

pub returns-in_ok-insert-in-Err-clause-ok : goal.returns-in_ok-insert-in-Err-clause-ok
returns-in_ok-insert-in-Err-clause-ok g c = rw c.in_ok-insert-in-Err.ensures.items (insert-is_put _ _ c.self.view_is _ _ _ c.deref.ensures.value _ _ c.new-in-Err.ensures c.in-Err.ensures.absent)

pub returns-in_ok-insert-in-Err-clause-sets : goal.returns-in_ok-insert-in-Err-clause-sets
returns-in_ok-insert-in-Err-clause-sets g c = rw c.in_ok-insert-in-Err.ensures.items (put_sets _ _ _ _ (insert-is_put _ _ c.self.view_is _ _ _ c.deref.ensures.value _ _ c.new-in-Err.ensures c.in-Err.ensures.absent))
