use Rattle.psu_power_loss.proofs.Events.{none_is_bad, prefix_is_left}
use Rattle.psu_power_loss.proofs.laws.restart_finds_a_prefix.Goals as goal

pub returns-clause-prefix : goal.returns-clause-prefix
returns-clause-prefix c = prefix_is_left

pub returns-clause-good : goal.returns-clause-good
returns-clause-good c = none_is_bad
