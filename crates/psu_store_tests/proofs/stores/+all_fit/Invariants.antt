use Rattle.std.proofs.Common.{length}
use Rattle.psu_store_tests.proofs.stores.«+all_fit».Given as goal

abbrev pub decreases-all_fit : goal.decreases-all_fit
decreases-all_fit g l = length l.pairs.now
