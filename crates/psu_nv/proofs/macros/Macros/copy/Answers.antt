use Rattle.std.proofs.Common.{◌∙◌, ◌∷◌, ◌++◌, ap, sym, List, ℕ}
use Rattle.psu_nv.specs.Entries.{macros_of}
use Rattle.psu_nv.proofs.Entries.{copied}
use Rattle.psu_nv.proofs.macros.Macros.copy.Goals as goal

pub loop-label-preserved : goal.loop-label-preserved
loop-label-preserved g c =
    let l = c.loop-label in
    let left = c.next.new.self in
    let is = c.in-Some.ensures.steps ∙ ap (λ (k : List ℕ). (k, c.in-Some.body.now) ∷ left) (sym c.copy.ensures) ∙ ap (λ (b : List ℕ). (c.copy.result, b) ∷ left) (sym (c.in_ok-of.ensures ∙ c.bytes.ensures)) in
    ap (λ (es : List (List ℕ × List ℕ)). macros_of (es ++ left)) c.in_ok-insert.ensures.entries
    ∙ copied l.map l.label-iterator left c.self.inside.map.entries c.copy.result c.in_ok-of.field-0 c.args.self.now c.iter-label-items.ensures.unique c.self.view_is is l.invariant
