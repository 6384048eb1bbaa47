use Rattle.std.proofs.Common.{◌≡◌, ◌∙◌, ap, length, rules, arith}
use Rattle.psu_nv.specs.Contents.{Contents}
use Rattle.psu_nv.proofs.Totals.{size_fits, shorter_is, fewer_is}
use Rattle.psu_nv.proofs.contents.Contents.macros_without.Goals as goal

pub overflow_sub-size : goal.overflow_sub-size
overflow_sub-size g c = omega (arith, size_fits c.args.self.now.macros c.args.label.now, c.macros_size.ensures.value, c.size_at.ensures)

pub returns-clause-value : goal.returns-clause-value
returns-clause-value g c =
    let s = c.self in
    let same = ap (λ (k : Contents). length k.macros) s.view_is in
    let long : c.len.result ≡ length s.inside.macros = search rules in
    c.macros_pages.ensures.value _ (fewer_is c.args.self.now.macros c.args.label.now c.len.result (long ∙ same) c.requires)
    (shorter_is c.args.self.now.macros c.args.label.now c.macros_size.result c.size_at.result c.macros_size.ensures.value c.size_at.ensures)
