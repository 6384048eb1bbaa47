use Rattle.std.proofs.Common.{refl, subst, List}
use Rattle.psu_map.specs.Map.{Item}
use Rattle.psu_map.specs.Place.{IsAt, IsGap}
use Rattle.psu_map.proofs.Sorted.{set-is_put, insert-is_put, put_sorted}
use Rattle.psu_map.proofs.plan.put_within.Goals as goal

pub returns-in-Ok-clause-items : goal.returns-in-Ok-clause-items
returns-in-Ok-clause-items g c =
    let is = subst (λ (items : List Item). IsAt items c.deref-2.result.now c.in-Ok.at) c.deref.ensures.value c.in-Ok.ensures.found in
    set-is_put _ _ refl _ _ _ c.deref-2.ensures.value _ _ c.new.ensures is

pub returns-in-Ok-clause-sorted : goal.returns-in-Ok-clause-sorted
returns-in-Ok-clause-sorted g c =
    let is = subst (λ (items : List Item). IsAt items c.deref-2.result.now c.in-Ok.at) c.deref.ensures.value c.in-Ok.ensures.found in
    put_sorted _ _ _ _ _ refl c.requires.sorted (set-is_put _ _ refl _ _ _ c.deref-2.ensures.value _ _ c.new.ensures is)

pub returns-in-Ok-insert-clause-items : goal.returns-in-Ok-insert-clause-items
returns-in-Ok-insert-clause-items g c =
    let gap = subst (λ (items : List Item). IsGap items c.deref-2.result.now c.in-Err.at) c.deref.ensures.value c.in-Err.ensures.absent in
    rw c.in-Ok-insert.ensures.items (insert-is_put _ _ refl _ _ _ c.deref-2.ensures.value _ _ c.new-in-Err.ensures gap)

pub returns-in-Ok-insert-clause-sorted : goal.returns-in-Ok-insert-clause-sorted
returns-in-Ok-insert-clause-sorted g c =
    let gap = subst (λ (items : List Item). IsGap items c.deref-2.result.now c.in-Err.at) c.deref.ensures.value c.in-Err.ensures.absent in
    rw c.in-Ok-insert.ensures.items (put_sorted _ _ _ _ _ refl c.requires.sorted (insert-is_put _ _ refl _ _ _ c.deref-2.ensures.value _ _ c.new-in-Err.ensures gap))
