use Rattle.std.proofs.Common.{ap, ◌∙◌, List}
use Rattle.psu_nv.specs.Contents.{Macro}
use Rattle.psu_nv.specs.Commands.{without_label}
use Rattle.psu_nv.specs.Entries.{macros_of}
use Rattle.psu_nv.proofs.Entries.{removed}
use Rattle.psu_nv.proofs.macros.Macros.remove.Goals as goal

pub returns : goal.returns
returns g c = ap macros_of c.shift_remove.ensures.entries ∙ removed c.args.label.now _ ∙ ap (λ (l : List Macro). without_label l c.args.label.now) c.self.view_is
