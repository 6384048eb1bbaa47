use Rattle.psu_bench_power_loss.proofs.Keeping.{each_kept}
use Rattle.psu_bench_power_loss.proofs.laws.each_opc_is_kept.Goals as goal

pub returns : goal.returns
returns g c = λ honest. each_kept (c.threads_are_events.ensures.prefix honest)
