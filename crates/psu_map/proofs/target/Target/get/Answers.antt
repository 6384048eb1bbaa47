use Rattle.std.proofs.Common.{◌∙◌, List, ap, sym, subst}
use Rattle.psu_map.specs.Map.{get}
use Rattle.psu_map.specs.Place.{IsAt, IsGap}
use Rattle.psu_map.specs.Target.{Aim, Entry, aimed, items_in}
use Rattle.psu_map.proofs.Aiming.{got_at, value_in}
use Rattle.psu_map.proofs.Sorted.{get-gap}
use Rattle.psu_map.proofs.target.Target.get.Goals as goal

pub returns-in-Ok : goal.returns-in-Ok
returns-in-Ok g c =
    let s = c.self.inside in
    let found = subst (λ (entries : List Entry). IsAt (items_in entries) c.args.key.now c.in-Ok.at) c.deref.ensures.value c.in-Ok.ensures.found in
    ap value_in c.behind-self.view_is ∙ sym (got_at s.entries.items c.args.key.now c.in-Ok.at c.index.result.now found c.index.ensures) ∙ ap (λ (aim : Aim). get (aimed aim) c.args.key.now) c.self.view_is

pub returns-in-Err : goal.returns-in-Err
returns-in-Err g c =
    let s = c.self.inside in
    let gap = subst (λ (entries : List Entry). IsGap (items_in entries) c.args.key.now c.in-Err.field-0) c.deref.ensures.value c.in-Err.ensures.absent in
    sym (get-gap (items_in s.entries.items) c.args.key.now c.in-Err.field-0 c.self.invariant.0 gap) ∙ ap (λ (aim : Aim). get (aimed aim) c.args.key.now) c.self.view_is
