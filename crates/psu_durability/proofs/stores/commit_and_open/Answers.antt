use Rattle.std.proofs.lemmas.Result.{IfOk-weaker}
use Rattle.psu_disk.specs.Ranges.{reads_left}
use Rattle.psu_map.specs.Batch.{changed}
use Rattle.psu_durability.proofs.Opening.{found_either, if_stored}
use Rattle.psu_durability.proofs.stores.commit_and_open.Goals as goal

pub returns-clause-either : goal.returns-clause-either
returns-clause-either c = λ left.
    let store = c.args.store in
    let disk = c.args.disk in
    IfOk-weaker c.open.result _ _ (λ again found.
    found_either store.limit again.limit store.items (changed store.items c.args.batch) again.items _ ((c.commit-ended.ensures.time tt (tt, tt)).each _ (left _ (reads_left _))) found)
    (c.open.ensures.represented tt)

pub returns-clause-stored : goal.returns-clause-stored
returns-clause-stored c =
    let store = c.args.store in
    if_stored c.commit-ended.result _ _ (λ after each left. c.open.ensures.finds tt store.limit (changed store.items c.args.batch) (λ image is. each image (left image is)))
    (c.commit-ended.ensures.left_stored tt)
