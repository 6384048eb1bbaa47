use Rattle.std.proofs.Common.{◌∙◌, sym, ap}
use Rattle.psu_nv.specs.Contents.{Contents}
use Rattle.psu_nv.specs.Costs.{size_at}
use Rattle.psu_nv.proofs.Labels.{no_long, size_none}
use Rattle.psu_nv.proofs.contents.Contents.size_at.Goals as goal

pub returns-in-None : goal.returns-in-None
returns-in-None g c =
    sym (size_none c.self.inside.macros c.args.label.now (no_long c.self.inside.macros c.args.label.now c.self.invariant.macros c.in-None.ensures.none)) ∙ ap (λ (k : Contents). size_at k.macros c.args.label.now) c.self.view_is
