use Rattle.std.proofs.Common.{◌∙◌, List, ap, subst, refl}
use Rattle.std.specs.List.{AllByRecursion}
use Rattle.psu_map.specs.Map.{Item, without}
use Rattle.psu_nv.specs.Costs.{IsShort}
use Rattle.psu_nv.proofs.Totals.{had_within, total_without}
use Rattle.psu_nv.proofs.files.Files.remove.Goals as goal

pub overflow_sub-pages : goal.overflow_sub-pages
overflow_sub-pages g c = had_within c.args.self.now c.args.name.now c.pairs.ensures.sorted (subst (AllByRecursion IsShort) c.self.view_is c.self.invariant.1) c.cost.result c.pages_at.result c.cost.ensures.value c.pages_at.ensures.value

pub invariant_of-self : goal.invariant_of-self
invariant_of-self g c =
    total_without c.args.self.now c.args.name.now c.pairs.ensures.sorted (subst (AllByRecursion IsShort) c.self.view_is c.self.invariant.1) c.cost.result c.pages_at.result c.cost.ensures.value c.pages_at.ensures.value
    c.remove.new.self _ (c.remove.ensures ∙ ap (λ (l : List Item). without l c.args.name.now) c.self.view_is) refl
