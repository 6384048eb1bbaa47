use Rattle.std.proofs.Common.{sym, subst, ◌∙◌}
use Rattle.psu_map.specs.Map.{IsSorted}
use Rattle.psu_map.proofs.Sorted.{remove-is_without, without_sorted, without-gap}
use Rattle.psu_map.proofs.items.Items.remove.Goals as goal

pub invariant_of-self : goal.invariant_of-self
invariant_of-self g c = without_sorted _ _ _ _ c.self.view_is c.self.invariant (c.remove.ensures.items ∙ remove-is_without _ _ _ _ c.self.view_is c.self.invariant c.in-Ok.ensures.found)

pub returns-in-Ok : goal.returns-in-Ok
returns-in-Ok g c = c.remove.ensures.items ∙ remove-is_without _ _ _ _ c.self.view_is c.self.invariant c.in-Ok.ensures.found

pub returns-in_default : goal.returns-in_default
returns-in_default g c = let h = c.in_default.ensures in sym (without-gap _ _ _ (subst IsSorted c.self.view_is c.self.invariant) h.absent)
