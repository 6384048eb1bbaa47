use Rattle.std.proofs.Common.{◌∙◌}
use Rattle.psu_hislip.specs.MessageType.{types}
use Rattle.psu_hislip.proofs.Items.{copied_item}
use Rattle.psu_hislip.proofs.message_type.MessageType.of.Goals as goal

pub returns : goal.returns
returns c = c.copied.ensures ∙ copied_item types c.args.code c.get.result c.get.ensures.lookup
