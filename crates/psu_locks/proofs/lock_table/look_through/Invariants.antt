use Rattle.std.proofs.Common.{◌≡◌, ◌+◌, length}
use Rattle.psu_locks.proofs.Looking.{Looked}
use Rattle.psu_locks.proofs.lock_table.look_through.Given as goal

abbrev pub invariant-loop-turn : goal.invariant-loop-turn
invariant-loop-turn l = record {
  looked : Looked l.fn.holders l.holders l.fn.waiting.items l.waiting.items l.sessions l.at;
  left : l.at + l.count ≡ length l.waiting.items + l.turn;
}
