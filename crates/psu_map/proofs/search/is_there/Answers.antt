use Rattle.std.proofs.Common.{◌∙◌, sym}
use Rattle.psu_map.proofs.Sorted.{key_found}
use Rattle.psu_map.proofs.search.is_there.Goals as goal

pub returns-then-at-pairs : goal.returns-then-at-pairs
returns-then-at-pairs g c same =
    key_found c.args.pairs.now c.args.key.now c.args.at c.index-pairs-at.result c.requires c.if-at-pairs.true c.index-pairs-at.is (sym c.key.ensures ∙ c.same_key.ensures.0 same)
