use Rattle.std.proofs.Common.{arith, false, true}
use Rattle.std.proofs.lemmas.List.{get_or-replicate}
use Rattle.psu_exec.proofs.changed_parts.ChangedParts.none.Goals as goal

pub invariant_of-result : goal.invariant_of-result
invariant_of-result c = (omega arith, λ k low high. get_or-replicate 100 k false true high)
