use Rattle.psu_power_loss.proofs.Events.{accounted}
use Rattle.psu_power_loss.proofs.Lasting.{each_wait_is_exact}
use Rattle.psu_power_loss.proofs.Staying.{each_stays_consistent}
use Rattle.psu_power_loss.proofs.laws.counts_are_of_the_history.Goals as goal

pub returns-clause-accounted : goal.returns-clause-accounted
returns-clause-accounted c = accounted

pub returns-clause-consistent : goal.returns-clause-consistent
returns-clause-consistent c = each_stays_consistent

pub returns-clause-waits : goal.returns-clause-waits
returns-clause-waits c = each_wait_is_exact
