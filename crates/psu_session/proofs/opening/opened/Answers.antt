use Rattle.std.proofs.Common.{arith}
use Rattle.psu_session.proofs.ReceivedMessages.{one_fed, one_message}
use Rattle.psu_session.proofs.opening.opened.Goals as goal

pub returns-clause-opened : goal.returns-clause-opened
returns-clause-opened c = one_fed c.new-channel.result c.feed.new.self c.args.opening.now c.new-messages.result.items c.feed.new.messages.items c.new-messages.ensures.items c.in_ok-feed.ensures.fed c.new-channel.ensures (omega (arith, c.len.ensures, c.if-len-ne1.false))

pub returns-then-len-ne1-clause-refused : goal.returns-then-len-ne1-clause-refused
returns-then-len-ne1-clause-refused c = λ e first is.
    let one = one_message c.new-channel.result c.feed.new.self c.args.opening.now c.new-messages.result.items c.feed.new.messages.items c.new-messages.ensures.items c.in_ok-feed.ensures.fed c.new-channel.ensures c.one_division.ensures first is in
    absurd (omega (arith, c.len.ensures, c.if-len-ne1.true, one))
