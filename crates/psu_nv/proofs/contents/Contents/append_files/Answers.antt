use Rattle.std.proofs.Common.{◌∙◌, ◌∷◌, ◌++◌, List, ℕ, sym, ap, subst, map, arith}
use Rattle.std.proofs.lemmas.List.{append-nil, take_all}
use Rattle.psu_map.specs.Map.{Item, IsSorted}
use Rattle.psu_nv.specs.Contents.{Contents, file_item}
use Rattle.psu_nv.proofs.Encoding.{prefix, before_file, next_file}
use Rattle.psu_nv.proofs.contents.Contents.append_files.Goals as goal

pub loop-pair-init : goal.loop-pair-init
loop-pair-init g c = c.requires ∙ sym (append-nil (prefix c.args.self.now))

pub append-requires : goal.append-requires
append-requires g c =
    let same = c.pairs-pair-items.ensures.all ∙ ap (λ (k : Contents). k.files) c.self.view_is in
    let led = c.in_ok-key.ensures ∙ ap (λ (l : List ℕ). 5 ∷ l) c.key.ensures in
    before_file c.args.self.now c.pairs-pair-items.result.now c.loop-pair.items c.loop-pair.pair-index _ _ same c.loop-pair.invariant c.loop-pair-test.true c.pair-item.is _ led
    (subst IsSorted (sym c.pairs-pair-items.ensures.all) c.pairs-pair-items.ensures.sorted)

pub loop-pair-preserved : goal.loop-pair-preserved
loop-pair-preserved g c =
    let same = c.pairs-pair-items.ensures.all ∙ ap (λ (k : Contents). k.files) c.self.view_is in
    let led = c.in_ok-key.ensures ∙ ap (λ (l : List ℕ). 5 ∷ l) c.key.ensures in
    next_file c.args.self.now c.pairs-pair-items.result.now c.loop-pair.items c.loop-pair.pair-index _ _ same c.loop-pair.invariant c.loop-pair-test.true c.pair-item.is _ led
    _ _ _ c.in_ok-share_value.ensures (omega arith) c.in_ok-append.ensures.ok

pub returns : goal.returns
returns g c =
    let same = c.pairs-pair-items.ensures.all ∙ ap (λ (k : Contents). k.files) c.self.view_is in
    let all = take_all c.loop-pair.pair-index c.pairs-pair-items.result.now (omega (arith, c.loop-pair-test.false)) in
    rw c.requires (c.loop-pair.invariant ∙ ap (λ (fs : List Item). prefix c.args.self.now ++ map file_item fs) (all ∙ same))
