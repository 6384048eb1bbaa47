use Rattle.std.proofs.Common.{◌++◌, ◌∷◌, [], ℕ, ◌∙◌, ap, arith}
use Rattle.psu_items.proofs.Placing.{added_kept, added_new, there_kept, there_new}
use Rattle.psu_items.proofs.layout.add.Goals.{then-slot, else-slot}
use Rattle.psu_items.proofs.layout.add.Goals as goal

pub returns-clause-slots : goal.returns-clause-slots
returns-clause-slots g c =
    let old = c.args.layout.now in
    let now = c.add_head.ensures.items in
    elim c.if-slot.branch [
      | then-slot w ↦
          let last = ap (λ v. v.unwritten.items) w.layout-is ∙ w.add_place.ensures.items ∙ ap (λ (n : ℕ). old.unwritten.items ++ n ∷ []) (omega (arith, w.len.ensures)) in
          added_new old.heads.items old.unwritten.items c.requires.there c.args.slot _ _ (now ∙ ap (λ v. v.heads.items ++ c.args.slot.head ∷ []) w.layout-is) last w.if-slot.true
      | else-slot w ↦ added_kept old.heads.items old.unwritten.items c.requires.there c.args.slot _ _ (now ∙ ap (λ v. v.heads.items ++ c.args.slot.head ∷ []) w.layout-is) (ap (λ v. v.unwritten.items) w.layout-is) w.if-slot.false
    ]

pub returns-clause-there : goal.returns-clause-there
returns-clause-there g c =
    let old = c.args.layout.now in
    let now = c.add_head.ensures.items in
    elim c.if-slot.branch [
      | then-slot w ↦
          let last = ap (λ v. v.unwritten.items) w.layout-is ∙ w.add_place.ensures.items ∙ ap (λ (n : ℕ). old.unwritten.items ++ n ∷ []) (omega (arith, w.len.ensures)) in
          there_new old.heads.items old.unwritten.items c.requires.there c.args.slot _ _ (now ∙ ap (λ v. v.heads.items ++ c.args.slot.head ∷ []) w.layout-is) last
      | else-slot w ↦ there_kept old.heads.items old.unwritten.items c.requires.there c.args.slot _ _ (now ∙ ap (λ v. v.heads.items ++ c.args.slot.head ∷ []) w.layout-is) (ap (λ v. v.unwritten.items) w.layout-is)
    ]
