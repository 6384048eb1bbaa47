use Rattle.std.proofs.Common.{length}
use Rattle.psu_tree.proofs.suffixes.«+suffix_value».Given as goal

abbrev pub decreases-suffix_value : goal.decreases-suffix_value
decreases-suffix_value l = length l.digits.now
