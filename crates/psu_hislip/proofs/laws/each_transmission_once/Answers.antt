use Rattle.std.proofs.Common.{[]}
use Rattle.psu_hislip.proofs.Transmitted.{run_transmissions}
use Rattle.psu_hislip.proofs.laws.each_transmission_once.Goals as goal

pub returns : goal.returns
returns c = λ core run whole rest good begun idle none e. run_transmissions core run good idle none [] whole rest begun e
