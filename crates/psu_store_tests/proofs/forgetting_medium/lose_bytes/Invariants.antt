use Rattle.std.proofs.Common.{◌≡◌, ℕ, ◌<◌, ◌≤◌, length, get_or, true, false}
use Rattle.psu_disk.specs.Loss.{lost}
use Rattle.psu_store_tests.proofs.forgetting_medium.lose_bytes.Given as goal

abbrev pub invariant-loop-i : goal.invariant-loop-i
invariant-loop-i l = record {
  size : length l.bytes ≡ length l.fn.bytes;
  same : (k : ℕ) → get_or l.at_risk k false ≡ false → get_or l.bytes k 0 ≡ get_or l.fn.bytes k 0;
  done : (k : ℕ) → k < l.i → get_or l.at_risk k false ≡ true → get_or l.bytes k 0 ≡ lost l.choice (get_or l.safe k 0) (get_or l.fn.bytes k 0);
  rest : (k : ℕ) → l.i ≤ k → get_or l.bytes k 0 ≡ get_or l.fn.bytes k 0;
}
