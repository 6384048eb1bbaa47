use Rattle.std.proofs.Common.{◌≡◌, [], ◌++◌, List, ℕ, length}
use Rattle.psu_hislip.specs.Channel.Awaited.{Partial}
use Rattle.psu_hislip.specs.Rest.{IsCutOf}
use Rattle.psu_hislip.proofs.whole.take_frames.Given as goal

abbrev pub invariant-loop-header : goal.invariant-loop-header
invariant-loop-header g l = record {
  so_far : (front : List ℕ) × (l.piece ≡ front ++ l.left) × IsCutOf l.fn.messages.items (Partial []) front l.messages.items (Partial []);
}

abbrev pub decreases-loop-header : goal.decreases-loop-header
decreases-loop-header g l = length l.left
