use Rattle.psu_power_loss.proofs.Events.{powers_on}
use Rattle.psu_power_loss.proofs.laws.restart_powers_on.Goals as goal

pub returns : goal.returns
returns c = powers_on
