use Rattle.std.proofs.Common.{refl, sym, subst, List}
use Rattle.psu_map.specs.Map.{Item}
use Rattle.psu_map.specs.Place.{IsAt, IsGap}
use Rattle.psu_map.proofs.Sorted.{remove-is_without, without_sorted, without-gap}
use Rattle.psu_map.proofs.plan.take_out.Goals as goal

pub returns-in-Ok-clause-items : goal.returns-in-Ok-clause-items
returns-in-Ok-clause-items g c =
    let is = subst (λ (items : List Item). IsAt items c.args.key.now c.in-Ok.at) c.deref.ensures.value c.in-Ok.ensures.found in
    rw c.remove.ensures.items (remove-is_without _ _ _ _ refl c.requires is)

pub returns-in-Ok-clause-sorted : goal.returns-in-Ok-clause-sorted
returns-in-Ok-clause-sorted g c =
    let is = subst (λ (items : List Item). IsAt items c.args.key.now c.in-Ok.at) c.deref.ensures.value c.in-Ok.ensures.found in
    rw c.remove.ensures.items (without_sorted _ _ _ _ refl c.requires (remove-is_without _ _ _ _ refl c.requires is))

pub returns-in_default-clause-items : goal.returns-in_default-clause-items
returns-in_default-clause-items g c =
    let h = c.in_default.ensures in
    let gap = subst (λ (items : List Item). IsGap items c.args.key.now c.in_default.field-0) c.deref.ensures.value h.absent in
    sym (without-gap _ _ _ c.requires gap)
