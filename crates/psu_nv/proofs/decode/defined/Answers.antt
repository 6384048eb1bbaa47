use Rattle.std.proofs.Common.{◌∙◌, ap, List, take}
use Rattle.psu_nv.specs.Contents.{Macro, has_label}
use Rattle.psu_nv.proofs.Keeping.{free_at}
use Rattle.psu_nv.proofs.decode.defined.Goals as goal

pub define-requires-clause-free : goal.define-requires-clause-free
define-requires-clause-free g c =
    let all = c.args.all.now in
    let at = c.loop-written.written-index in
    ap (λ (l : List Macro). has_label l c.written-item.result.label) c.loop-written.invariant ∙ ap (λ (m : Macro). has_label (take at all) m.label) c.written-item.is
    ∙ free_at all at _ c.requires.distinct c.loop-written-test.true
