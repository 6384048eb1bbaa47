use Rattle.std.proofs.Common.{ap, ◌∙◌, Some, List}
use Rattle.psu_nv.specs.Contents.{Macro, body_at}
use Rattle.psu_nv.proofs.Entries.{found}
use Rattle.psu_nv.proofs.macros.Macros.body.Goals as goal

pub returns-in-Some : goal.returns-in-Some
returns-in-Some g c = ap Some c.bytes.ensures ∙ c.in-Some.ensures.value ∙ found c.self.inside.map c.args.label.now ∙ ap (λ (l : List Macro). body_at l c.args.label.now) c.self.view_is

pub returns-in-None : goal.returns-in-None
returns-in-None g c = c.in-None.ensures.value ∙ found c.self.inside.map c.args.label.now ∙ ap (λ (l : List Macro). body_at l c.args.label.now) c.self.view_is
