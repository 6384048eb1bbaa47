use Rattle.psu_instrument.proofs.instrument.Instrument.query.Goals as goal

pub returns-in-EventStatus : goal.returns-in-EventStatus
returns-in-EventStatus g c = rw c.in-EventStatus.is (c.event_status.ensures c.args.limit c.args.contents.now c.args.available)

pub returns-in-NextError : goal.returns-in-NextError
returns-in-NextError g c = rw c.in-NextError.is (c.next_error.ensures c.args.limit c.args.contents.now c.args.available)

pub returns-in-Event : goal.returns-in-Event
returns-in-Event g c = rw c.in-Event.is (c.events.ensures c.args.limit c.args.contents.now c.args.available)
