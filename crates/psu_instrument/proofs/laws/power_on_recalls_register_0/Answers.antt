use Rattle.psu_instrument.proofs.Recalling.{powers_on_as_recalled}
use Rattle.psu_instrument.proofs.laws.power_on_recalls_register_0.Goals as goal

pub returns : goal.returns
returns c = powers_on_as_recalled
