use Rattle.std.proofs.Common.{◌∙◌}
use Rattle.psu_session.specs.Numbers.{is_clear}
use Rattle.psu_session.proofs.ReceivedMessages.{any_act}
use Rattle.psu_session.proofs.numbers.clears.Goals as goal

pub returns : goal.returns
returns c = c.has_clear.ensures ∙ any_act is_clear c.args.actions.now
