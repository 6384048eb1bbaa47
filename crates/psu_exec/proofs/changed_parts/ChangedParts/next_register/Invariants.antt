use Rattle.std.proofs.Common.{◌≡◌, ◌<◌, ◌≤◌, ℕ, false, true, slice_index_or}
use Rattle.psu_exec.proofs.changed_parts.ChangedParts.next_register.Given as goal

abbrev pub invariant-loop-number : goal.invariant-loop-number
invariant-loop-number l = (k : ℕ) → l.from ≤ k → k < l.number → slice_index_or l.self.registers k true ≡ false
