use Rattle.psu_bench_power_loss.proofs.Lives.{seen_histories_happen}
use Rattle.psu_bench_power_loss.proofs.laws.seen_histories_happen.Goals as goal

pub returns : goal.returns
returns g c = seen_histories_happen _
