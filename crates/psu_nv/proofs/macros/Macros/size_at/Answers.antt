use Rattle.std.proofs.Common.{◌∙◌, ◌+◌, sym, ap, List, ℕ, length}
use Rattle.psu_nv.specs.Contents.{Macro, body_at}
use Rattle.psu_nv.proofs.Entries.{found}
use Rattle.psu_nv.proofs.Labels.{size_some, size_none}
use Rattle.psu_nv.proofs.macros.Macros.size_at.Goals as goal

pub returns-in-Some : goal.returns-in-Some
returns-in-Some g c =
    let here = sym (c.in-Some.ensures.value ∙ found c.self.inside.map c.args.label.now ∙ ap (λ (l : List Macro). body_at l c.args.label.now) c.self.view_is) in
    ap (λ (l : List ℕ). 3 + (length l + length c.bytes-in-Some.result.now)) c.bytes.ensures ∙ ap (λ (b : List ℕ). 3 + (length c.args.label.now + length b)) c.bytes-in-Some.ensures
    ∙ sym (size_some c.args.self.now c.args.label.now c.in-Some.body.now here)

pub returns-in-None : goal.returns-in-None
returns-in-None g c = sym (size_none c.args.self.now c.args.label.now (sym (c.in-None.ensures.value ∙ found c.self.inside.map c.args.label.now ∙ ap (λ (l : List Macro). body_at l c.args.label.now) c.self.view_is)))
