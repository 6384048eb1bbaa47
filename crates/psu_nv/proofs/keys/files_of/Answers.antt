use Rattle.std.proofs.Common.{◌∙◌, sym, ap, subst, arith}
use Rattle.psu_map.specs.Map.{IsSorted}
use Rattle.psu_nv.specs.Decoding.{name_in}
use Rattle.psu_nv.proofs.Filed.{passed, added, before_name}
use Rattle.psu_nv.proofs.keys.files_of.Goals as goal
use Rattle.psu_nv.proofs.keys.files_of.Goals.{in-Some+in_ok-to_vec+in_ok-share_value+in_ok-append, in_default}

pub append-requires : goal.append-requires
append-requires g c =
    before_name c.pairs-pair-items.result.now c.loop-pair.pair-index _ c.pair-item.result c.loop-pair-test.true c.pair-item.is c.loop-pair.files c.in-Some.name.now _
    (subst IsSorted (sym c.pairs-pair-items.ensures.all) c.pairs-pair-items.ensures.sorted) c.loop-pair.invariant (ap name_in (sym c.key.ensures) ∙ sym c.in-Some.ensures)
    (c.in_ok-to_vec.ensures.items_if_clones_equal (λ x y e. e))

pub loop-pair-preserved : goal.loop-pair-preserved
loop-pair-preserved g c = elim c.match-name_in.branch [
  | in-Some+in_ok-to_vec+in_ok-share_value+in_ok-append w ↦
      w.files-is ∙ added c.pairs-pair-items.result.now c.loop-pair.pair-index _ c.pair-item.result c.loop-pair-test.true c.pair-item.is _ c.loop-pair.files _ w.in-Some.name.now _ _ (omega arith) c.loop-pair.invariant
      (ap name_in (sym c.key.ensures) ∙ sym w.in-Some.ensures) (w.in_ok-to_vec.ensures.items_if_clones_equal (λ x y e. e)) w.in_ok-share_value.ensures w.in_ok-append.ensures.ok
  | in_default w ↦
      w.files-is ∙ passed c.pairs-pair-items.result.now c.loop-pair.pair-index _ c.pair-item.result c.loop-pair-test.true c.pair-item.is _ c.loop-pair.files (omega arith) c.loop-pair.invariant
      (ap name_in (sym c.key.ensures) ∙ sym w.in_default.ensures)
]
