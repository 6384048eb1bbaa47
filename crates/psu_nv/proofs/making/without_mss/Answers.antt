use Rattle.std.proofs.Common.{◌∙◌}
use Rattle.std.proofs.lemmas.Nat.{and_assoc}
use Rattle.std.specs.Int.Bits.{and_zero_r}
use Rattle.psu_nv.proofs.making.without_mss.Goals as goal

pub returns-clause-mss : goal.returns-clause-mss
returns-clause-mss c = and_assoc 64 c.args.bits 191 ∙ and_zero_r c.args.bits
