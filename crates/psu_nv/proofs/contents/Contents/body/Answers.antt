use Rattle.std.proofs.Common.{◌∙◌, sym, ap}
use Rattle.std.specs.Prelude.{option_map}
use Rattle.psu_nv.specs.Contents.{Contents, body_at}
use Rattle.psu_nv.proofs.Labels.{no_long}
use Rattle.psu_nv.proofs.Finding.{found_most}
use Rattle.psu_nv.proofs.contents.Contents.body.Goals as goal

pub returns-in_err-of-clause-value : goal.returns-in_err-of-clause-value
returns-in_err-of-clause-value g c =
    ap (option_map (λ body. body.now)) c.from_residual.ensures
    ∙ sym (no_long c.self.inside.macros c.args.label.now c.self.invariant.macros c.in_err-of.ensures.none) ∙ ap (λ (k : Contents). body_at k.macros c.args.label.now) c.self.view_is

pub returns-clause-most : goal.returns-clause-most
returns-clause-most g c = found_most c.body.result c.self.inside.macros _ c.self.invariant.macros c.body.ensures
