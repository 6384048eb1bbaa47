use Rattle.psu_map.proofs.Sorted.{get-at}
use Rattle.psu_map.proofs.search.value_near.Goals as goal

pub returns-then-is_there : goal.returns-then-is_there
returns-then-is_there g c =
    let got = get-at c.args.pairs.now c.args.key.now c.args.next.now c.index-pairs-at.result (c.is_there.ensures c.if-is_there.true) in
    let value = c.value.ensures in
    cc
