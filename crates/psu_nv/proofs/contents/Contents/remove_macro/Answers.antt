use Rattle.std.proofs.Common.{◌≡◌, ◌∙◌, sym, ap, List, None}
use Rattle.psu_nv.specs.Contents.{Macro, Contents, contents_of, body_at}
use Rattle.psu_nv.specs.Commands.{without_label}
use Rattle.psu_nv.proofs.Keeping.{kept_without_label}
use Rattle.psu_nv.proofs.Labels.{no_long, none_leaves}
use Rattle.psu_nv.proofs.contents.Contents.remove_macro.Goals as goal

pub invariant_of-self : goal.invariant_of-self
invariant_of-self g c =
    let s = c.self.inside in
    kept_without_label (contents_of s.registers s.user s.macros s.enables s.files s.recall) c.remove.new.self c.args.label.now c.self.invariant
    (c.remove.ensures ∙ ap (without_label s.macros) c.in-Some.ensures.found)

pub returns-in_default : goal.returns-in_default
returns-in_default g c =
    let old = c.args.self.now in
    let none : body_at old.macros c.args.label.now ≡ None =
    sym (ap (λ (k : Contents). body_at k.macros c.args.label.now) c.self.view_is) ∙ no_long c.self.inside.macros c.args.label.now c.self.invariant.macros c.in_default.ensures.none in
    ap (λ (l : List Macro). record old { macros = l }) (sym (none_leaves old.macros c.args.label.now none))
