use Rattle.std.proofs.Common.{◌<◌, ℕ, List, sym, ◌∙◌, ap, subst}
use Rattle.psu_pages.specs.Image.{other, gate, number_in}
use Rattle.psu_pages.specs.Shown.{items_in, Encodes}
use Rattle.psu_pages.proofs.pages.Pages.open.Goals as goal

pub invariant_of-result-clause-encodes : goal.invariant_of-result-clause-encodes
invariant_of-result-clause-encodes g c = λ h sure x left.
    let d = g.D.Disk in
    let o = c.in-Ok.field-0 in
    let chosen = o.chosen in
    let new = (d.state c.look.new.disk).bytes in
    let seen = c.look.ensures.seen h in
    let at_new : Encodes chosen.root chosen.version chosen.limit chosen.number o.heads.items (items_in chosen.root new) new =
    subst (λ (y : List ℕ). Encodes chosen.root chosen.version chosen.limit chosen.number o.heads.items (items_in chosen.root y) y) (sym seen) (c.in-Ok.ensures.found h) in
    subst (Encodes chosen.root chosen.version chosen.limit chosen.number o.heads.items (items_in chosen.root new)) (sym (c.in-Ok.ensures.synced h x left)) at_new

pub invariant_of-result-clause-shut : goal.invariant_of-result-clause-shut
invariant_of-result-clause-shut g c = λ h one x left is.
    let o = c.in-Ok.field-0 in
    let chosen = o.chosen in
    (c.in-Ok.ensures.gates h).shut (c.standing.ensures.one one) (sym (ap (gate (other chosen.root)) (c.in-Ok.ensures.synced h x left ∙ c.look.ensures.seen h)) ∙ is)

pub invariant_of-result-clause-lower : goal.invariant_of-result-clause-lower
invariant_of-result-clause-lower g c = λ h two x left.
    let o = c.in-Ok.field-0 in
    let chosen = o.chosen in
    subst (λ (y : List ℕ). number_in (other chosen.root) y < chosen.number) (sym (c.in-Ok.ensures.synced h x left ∙ c.look.ensures.seen h)) ((c.in-Ok.ensures.gates h).lower (c.standing.ensures.both two))
