use Rattle.std.proofs.Common.{length}
use Rattle.psu_tree.proofs.walks.«+is_form_within».Given as goal

abbrev pub decreases-is_form_within : goal.decreases-is_form_within
decreases-is_form_within l = length l.name.now
