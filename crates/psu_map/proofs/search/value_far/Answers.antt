use Rattle.std.proofs.Common.{sym}
use Rattle.psu_map.proofs.Sorted.{get-at, get-gap}
use Rattle.psu_map.proofs.search.value_far.Goals as goal

pub returns-in-Err : goal.returns-in-Err
returns-in-Err g c = sym (get-gap _ _ _ c.requires c.in-Err.ensures.absent)

pub returns-in-Ok : goal.returns-in-Ok
returns-in-Ok g c =
    let got = get-at c.args.pairs.now c.args.key.now c.in-Ok.at c.index-pairs-at.result c.in-Ok.ensures.found in
    let value = c.value.ensures in
    cc
