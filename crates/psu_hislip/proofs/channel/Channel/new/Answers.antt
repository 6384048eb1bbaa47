use Rattle.std.proofs.Common.{List, ℕ, [], sym, subst}
use Rattle.psu_hislip.specs.Channel.{Fed}
use Rattle.psu_hislip.specs.Channel.Awaited.{Partial}
use Rattle.psu_hislip.proofs.Channels.{fed_none}
use Rattle.psu_hislip.proofs.channel.Channel.new.Goals as goal

pub returns : goal.returns
returns g c = subst (λ (z : List ℕ). Fed (Partial z) [] []) (sym c.new.ensures) fed_none
