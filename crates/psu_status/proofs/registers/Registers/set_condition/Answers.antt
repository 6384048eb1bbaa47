use Rattle.psu_status.proofs.Fifteen.{condition_fits}
use Rattle.psu_status.proofs.registers.Registers.set_condition.Goals as goal

pub returns-clause-fifteen : goal.returns-clause-fifteen
returns-clause-fifteen c was = condition_fits c.args.self.now c.args.bits was
