use Rattle.std.proofs.Common.{ap, ◌∙◌, List, ◌++◌, ◌∷◌, []}
use Rattle.psu_nv.specs.Contents.{Macro, has_label}
use Rattle.psu_nv.specs.Commands.{macro_of}
use Rattle.psu_nv.specs.Entries.{macros_of}
use Rattle.psu_nv.proofs.Entries.{defined}
use Rattle.psu_nv.proofs.macros.Macros.define.Goals as goal

pub returns-clause-ok : goal.returns-clause-ok
returns-clause-ok g c =
    let is = c.self.view_is in
    ap macros_of c.in_ok-insert.ensures.entries
    ∙ defined c.self.inside.map c.args.label c.args.body (ap (λ (l : List Macro). has_label l c.args.label) is ∙ c.requires)
    ∙ ap (λ (l : List Macro). l ++ macro_of c.args.label c.args.body ∷ []) is
