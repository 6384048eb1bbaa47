use Rattle.std.proofs.Common.{◌≡◌, ◌≤◌, length, take}
use Rattle.psu_locks.specs.Locks.{failed_at}
use Rattle.psu_locks.proofs.lock_table.fail_at.Given as goal

abbrev pub invariant-loop-request : goal.invariant-loop-request
invariant-loop-request l = record {
  so_far : l.sessions ≡ failed_at l.now (take l.request-index l.fn.waiting.items);
  room : length l.sessions ≤ l.request-index;
}
