use Rattle.std.proofs.Common.{◌≡◌, ℕ, ◌<◌, length, get_or, true, false}
use Rattle.psu_store_tests.proofs.forgetting_medium.make_safe.Given as goal

abbrev pub invariant-loop-i : goal.invariant-loop-i
invariant-loop-i l = record {
  size : length l.safe ≡ length l.fn.safe;
  others : (k : ℕ) → get_or l.forgotten k false ≡ true → get_or l.safe k 0 ≡ get_or l.fn.safe k 0;
  done : (k : ℕ) → k < l.i → get_or l.forgotten k false ≡ false → get_or l.safe k 0 ≡ get_or l.bytes k 0;
}
