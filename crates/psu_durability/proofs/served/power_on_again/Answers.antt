use Rattle.std.proofs.lemmas.Result.{IfOk-weaker}
use Rattle.psu_durability.proofs.PoweringOn.{powers_on_after_rounds, powers_on_again}
use Rattle.psu_durability.proofs.served.power_on_again.Goals as goal

pub returns-clause-prefix : goal.returns-clause-prefix
returns-clause-prefix g c = IfOk-weaker c.power_on.result _ _ (λ access begins. powers_on_again _ (c.threads_are_events.ensures.prefix tt) _ access.seat begins) (c.power_on.ensures.begins tt)

pub returns-clause-rounds : goal.returns-clause-rounds
returns-clause-rounds g c =
    IfOk-weaker c.power_on.result _ _ (λ access begins. powers_on_after_rounds _ (c.threads_are_events.ensures.prefix tt) c.threads_are_events.ensures.rounds _ access.seat begins)
    (c.power_on.ensures.begins tt)
