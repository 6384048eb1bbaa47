use Rattle.std.proofs.Common.{◌≡◌, ◌∙◌, sym, ap, length, rules, arith}
use Rattle.psu_nv.specs.Contents.{Contents}
use Rattle.psu_nv.proofs.Totals.{fewer_is, some_macro}
use Rattle.psu_nv.proofs.contents.Contents.count_without.Goals as goal

pub overflow_sub-result : goal.overflow_sub-result
overflow_sub-result g c =
    let s = c.self in
    let same = ap (λ (k : Contents). length k.macros) s.view_is in
    let long : c.len.result ≡ length s.inside.macros = search rules in
    omega (arith, some_macro c.args.self.now.macros c.args.label.now c.requires, same, long)

pub returns : goal.returns
returns g c =
    let s = c.self in
    let same = ap (λ (k : Contents). length k.macros) s.view_is in
    let long : c.len.result ≡ length s.inside.macros = search rules in
    sym (fewer_is c.args.self.now.macros c.args.label.now c.len.result (long ∙ same) c.requires)
