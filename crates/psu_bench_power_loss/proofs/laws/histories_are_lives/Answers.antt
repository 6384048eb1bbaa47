use Rattle.psu_bench_power_loss.proofs.Lives.{histories_happen, lives_are_events, some_history_happens, threads_leave_prefix}
use Rattle.psu_bench_power_loss.proofs.laws.histories_are_lives.Goals as goal

pub returns : goal.returns
returns c = record { events = lives_are_events; each = histories_happen; some = some_history_happens; prefix = threads_leave_prefix }
