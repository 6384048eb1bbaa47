use Rattle.std.proofs.Common.{◌∙◌}
use Rattle.psu_nv.proofs.Totals.{push_is}
use Rattle.psu_nv.proofs.contents.Contents.macros_with.Goals as goal

pub returns-clause-value : goal.returns-clause-value
returns-clause-value g c = λ label body long. c.page_count.ensures.value ∙ push_is c.args.self.now.macros label body c.args.size c.macros_size.result long c.macros_size.ensures.value
