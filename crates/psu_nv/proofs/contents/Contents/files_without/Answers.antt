use Rattle.std.proofs.Common.{◌∙◌, ap}
use Rattle.psu_map.specs.Map.{get}
use Rattle.psu_nv.specs.Contents.{Contents}
use Rattle.psu_nv.specs.Costs.{pages_of}
use Rattle.psu_nv.proofs.Totals.{had_fits, without_is}
use Rattle.psu_nv.proofs.contents.Contents.files_without.Goals as goal

pub overflow_sub-result : goal.overflow_sub-result
overflow_sub-result g c =
    let s = c.self in
    had_fits s.inside.files c.args.self.now.files c.args.name.now (ap (λ (k : Contents). k.files) s.view_is) s.invariant.sorted c.cost.result c.pages_at.result c.cost.ensures.value (c.pages_at.ensures.value ∙ ap (λ (k : Contents). pages_of (get k.files c.args.name.now)) s.view_is)

pub returns-clause-value : goal.returns-clause-value
returns-clause-value g c =
    let s = c.self in
    without_is s.inside.files c.args.self.now.files c.args.name.now (ap (λ (k : Contents). k.files) s.view_is) s.invariant.sorted c.cost.result c.pages_at.result c.cost.ensures.value (c.pages_at.ensures.value ∙ ap (λ (k : Contents). pages_of (get k.files c.args.name.now)) s.view_is)
