use Rattle.psu_bench_power_loss.proofs.Threads.{disks_leave_prefix, ends_are_true, rounds_are_runs, rounds_have_steps, some_steps_exist, threads_are_events}
use Rattle.psu_bench_power_loss.proofs.laws.threads_are_events.Goals as goal

pub returns : goal.returns
returns g c = record {
  ends = λ honest. ends_are_true _ _ g.D.Disk;
  events = λ honest. threads_are_events _ _ g.D.Disk (λ records. g.met.D.Disk.counts_now records) honest;
  prefix = λ honest. disks_leave_prefix _ _ g.D.Disk (λ records. g.met.D.Disk.counts_now records) honest;
  runs = rounds_are_runs _ _ g.D.Disk;
  rounds = rounds_have_steps _ _ g.D.Disk;
  some = some_steps_exist _ _ g.D.Disk;
}
