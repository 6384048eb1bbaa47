use Rattle.psu_instrument.proofs.Kept.{kept_are_nonvolatile, nonvolatile_are_kept}
use Rattle.psu_instrument.proofs.laws.kept_commands_are_nonvolatile.Goals as goal

pub returns-clause-nonvolatile : goal.returns-clause-nonvolatile
returns-clause-nonvolatile c = kept_are_nonvolatile

pub returns-clause-kept : goal.returns-clause-kept
returns-clause-kept c = nonvolatile_are_kept
