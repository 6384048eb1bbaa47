use Rattle.std.proofs.Common.{◌∙◌, ◌≤◌, ap, arith}
use Rattle.psu_map.specs.Map.{get}
use Rattle.psu_nv.specs.Contents.{Contents}
use Rattle.psu_nv.specs.Costs.{pages_of}
use Rattle.psu_nv.proofs.Totals.{had_fits, with_is}
use Rattle.psu_nv.proofs.contents.Contents.files_with.Goals as goal

pub overflow_sub-result : goal.overflow_sub-result
overflow_sub-result g c =
    let s = c.self in
    let fits : c.pages_at.result ≤ c.cost.result = had_fits s.inside.files c.args.self.now.files c.args.name.now (ap (λ (k : Contents). k.files) s.view_is) s.invariant.sorted c.cost.result c.pages_at.result c.cost.ensures.value (c.pages_at.ensures.value ∙ ap (λ (k : Contents). pages_of (get k.files c.args.name.now)) s.view_is) in
    omega (arith, fits)

pub returns-clause-value : goal.returns-clause-value
returns-clause-value g c = λ value long.
    let s = c.self in
    with_is s.inside.files c.args.self.now.files c.args.name.now (ap (λ (k : Contents). k.files) s.view_is) s.invariant.sorted c.cost.result c.pages_at.result c.cost.ensures.value (c.pages_at.ensures.value ∙ ap (λ (k : Contents). pages_of (get k.files c.args.name.now)) s.view_is) value c.args.size c.page_count.result long c.page_count.ensures.value
