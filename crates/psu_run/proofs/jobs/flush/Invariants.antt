use Rattle.psu_run.proofs.Common.{◌≡◌, ℕ, false, None, ◌-◌, ◌≤◌, IsTied, IsWornAtLast, Leads, failures_of, is_open, wait_of}
use Rattle.psu_run.proofs.UnitEnds.{IsFlushAfter, IsFlushed}
use Rattle.psu_run.proofs.jobs.flush.Given as goal

abbrev pub invariant-loop : goal.invariant-loop
invariant-loop g l = record {
  idle : l.exec.device.flush.out ≡ false;
  same_open : is_open l.exec.device 1 ≡ is_open l.initial.exec.device 1;
  same_locks : l.exec.device.volatile.locks ≡ l.initial.exec.device.volatile.locks;
  free : wait_of l.initial.exec.device.flush 1 ≡ None → wait_of l.exec.device.flush 1 ≡ None;
  worn : IsWornAtLast l.initial.exec → IsWornAtLast l.exec;
  count : l.counter ≤ 4;
  jobs : Leads l.initial.exec l.exec (IsFlushAfter g.D.Disk.honest (4 - l.counter));
  flushed : (before : ℕ) → IsTied before l.initial.exec → IsFlushed before (failures_of l.exec) l.counter l.exec.device.flush;
}
