use Rattle.std.proofs.Common.{◌≡◌, List, ℕ, ◌++◌, length}
use Rattle.psu_hislip.specs.Rest.{awaited, IsRest, IsCutOf}
use Rattle.psu_hislip.proofs.decoded.decode.Given as goal

abbrev pub invariant-loop-left : goal.invariant-loop-left
invariant-loop-left g l = record {
  good : IsRest l.rest;
  so_far : (front : List ℕ) × (l.piece ≡ front ++ l.left) × IsCutOf l.fn.messages.items (awaited l.fn.rest) front l.messages.items (awaited l.rest);
}

abbrev pub decreases-loop-left : goal.decreases-loop-left
decreases-loop-left g l = length l.left
