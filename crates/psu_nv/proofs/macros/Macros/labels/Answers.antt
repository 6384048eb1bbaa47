use Rattle.std.proofs.Common.{ap, ◌∙◌, map}
use Rattle.psu_nv.specs.Contents.{Macro}
use Rattle.psu_nv.proofs.Entries.{labels_are}
use Rattle.psu_nv.proofs.macros.Macros.labels.Goals as goal

pub returns : goal.returns
returns g c = c.as_slice.ensures ∙ c.keys.ensures.rest ∙ labels_are c.self.inside.map.entries ∙ ap (map (λ (m : Macro). m.label)) c.self.view_is
