use Rattle.std.proofs.Common.{◌≡◌, List, ap, sym, subst, ◌∙◌}
use Rattle.std.proofs.lemmas.List.{take_all}
use Rattle.psu_map.specs.Map.{Item, get, IsSorted}
use Rattle.psu_map.specs.Target.{items_in}
use Rattle.psu_map.proofs.Aiming.{all_stand}
use Rattle.psu_map.proofs.Keeping.{all_standing}
use Rattle.psu_map.proofs.target.Target.standing.Goals as goal

pub invariant_of-result : goal.invariant_of-result
invariant_of-result g c =
    let before = c.args.before.now in
    let are : items_in c.loop-pair.entries.items ≡ before = c.loop-pair.invariant.items ∙ take_all c.loop-pair.pair-index before c.loop-pair-test.false in
    (subst IsSorted (sym are) c.requires, all_stand before c.loop-pair.entries.items c.requires are)

pub returns-clause-standing : goal.returns-clause-standing
returns-clause-standing g c = λ key.
    let before = c.args.before.now in
    let are : items_in c.loop-pair.entries.items ≡ before = c.loop-pair.invariant.items ∙ take_all c.loop-pair.pair-index before c.loop-pair-test.false in
    all_standing c.loop-pair.entries.items c.loop-pair.invariant.stand key ∙ ap (λ (items : List Item). get items key) are
