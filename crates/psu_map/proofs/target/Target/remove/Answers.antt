use Rattle.std.proofs.Common.{◌∙◌, List, ap, sym, subst}
use Rattle.psu_map.specs.Place.{IsAt, IsGap}
use Rattle.psu_map.specs.Target.{Aim, Entry, aimed, items_in, standing}
use Rattle.psu_map.specs.Map.{without}
use Rattle.psu_map.proofs.Aiming.{none_out, remove_holds, taken_out}
use Rattle.psu_map.proofs.Keeping.{stands_remove}
use Rattle.psu_map.proofs.target.Target.remove.Goals as goal

pub invariant_of-self : goal.invariant_of-self
invariant_of-self g c =
    let s = c.self.inside in
    let found = subst (λ (entries : List Entry). IsAt (items_in entries) c.args.key.now c.in-Ok.at) c.deref.ensures.value c.in-Ok.ensures.found in
    remove_holds s.before.now s.entries.items c.self.invariant.0 c.self.invariant.1 c.args.key.now c.in-Ok.at c.remove.new.self.items found c.remove.ensures.items

pub returns-in-Ok-clause-aimed : goal.returns-in-Ok-clause-aimed
returns-in-Ok-clause-aimed g c =
    let s = c.self.inside in
    let found = subst (λ (entries : List Entry). IsAt (items_in entries) c.args.key.now c.in-Ok.at) c.deref.ensures.value c.in-Ok.ensures.found in
    ap items_in c.remove.ensures.items ∙ taken_out s.before.now s.entries.items c.self.invariant.0 c.self.invariant.1 c.args.key.now c.in-Ok.at found ∙ ap (λ (aim : Aim). without (aimed aim) c.args.key.now) c.self.view_is

pub returns-in_default-clause-aimed : goal.returns-in_default-clause-aimed
returns-in_default-clause-aimed g c =
    let s = c.self.inside in
    let h = c.in_default.ensures in
    let gap = subst (λ (entries : List Entry). IsGap (items_in entries) c.args.key.now c.in_default.field-0) c.deref.ensures.value h.absent in
    ap aimed (sym c.self.view_is) ∙ none_out s.before.now s.entries.items c.self.invariant.0 c.self.invariant.1 c.args.key.now c.in_default.field-0 gap ∙ ap (λ (aim : Aim). without (aimed aim) c.args.key.now) c.self.view_is

pub returns-in-Ok-clause-standing : goal.returns-in-Ok-clause-standing
returns-in-Ok-clause-standing g c = λ other its stood differs.
    let s = c.self.inside in
    let found = subst (λ (entries : List Entry). IsAt (items_in entries) c.args.key.now c.in-Ok.at) c.deref.ensures.value c.in-Ok.ensures.found in
    let before = ap (λ (aim : Aim). standing aim.entries other) c.self.view_is ∙ stood in
    ap (λ (entries : List Entry). standing entries other) c.remove.ensures.items ∙ stands_remove s.entries.items c.args.key.now c.in-Ok.at other its before c.remove.result found differs
