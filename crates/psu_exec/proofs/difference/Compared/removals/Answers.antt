use Rattle.std.proofs.Common.{◌≡◌, ◌∙◌, ◌<◌, List, length, slice_index_or, subst, sym}
use Rattle.psu_map.specs.Map.{Item}
use Rattle.psu_nv.specs.Contents.{items_of}
use Rattle.psu_exec.proofs.Touching.{none_gone, stays_there}
use Rattle.psu_exec.proofs.difference.Compared.removals.Goals as goal

pub returns-then-has_each_register-clause-exact : goal.returns-then-has_each_register-clause-exact
returns-then-has_each_register-clause-exact g c =
    let self = c.args.self.now in
    c.new-edits.ensures
    ∙ sym (none_gone self.touched.now self.before.now.map self.contents.now c.requires.keys c.pairs-pairs.ensures.sorted c.requires.others (c.are_registers.ensures c.if-are_registers.true) (c.has_each_register.ensures c.if-has_each_register.true))

pub put_removal-requires : goal.put_removal-requires
put_removal-requires g c = λ same.
    let self = c.args.self.now in
    let all = c.pairs-pairs.ensures.all in
    let i = c.pair-item.result in
    stays_there self.touched.now self.before.now.map (items_of self.contents.now) c.loop-pair.pair-index i c.requires.others c.pairs-pairs.ensures.sorted
    (subst (λ (items : List Item). c.loop-pair.pair-index < length items) all c.loop-pair-test.true) (subst (λ (items : List Item). i ≡ slice_index_or items c.loop-pair.pair-index i) all c.pair-item.is) same
