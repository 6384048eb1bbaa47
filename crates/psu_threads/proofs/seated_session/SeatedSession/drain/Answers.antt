use Rattle.std.proofs.Common.{refl, subst}
use Rattle.std.specs.Arc.{arc_value}
use Rattle.psu_session_io.specs.Ending.{Drains}
use Rattle.psu_session_io.proofs.Extending.{drains}
use Rattle.psu_threads.specs.Called.{CallsUnder, SessionSeat}
use Rattle.psu_threads.specs.Seated.{DoesUnder, Seated}
use Rattle.psu_threads.proofs.Seating.{at_seat, stepped}
use Rattle.psu_threads.proofs.seated_session.SeatedSession.drain.Goals as goal

pub invariant_of-self : goal.invariant_of-self
invariant_of-self g c =
    let was = c.self.invariant in
    let s = c.self.inside in
    let did = c.drain-drained in
    let begins = at_seat s.number c.new-device.result s.seat c.new-caller.result c.replace-seat.result c.replace-seat.ensures.value c.new-caller.ensures c.new-device.ensures in
    let next = stepped g.D.Disk.honest (arc_value s.bench) s.number s.closed s.session did.new.self s.seat c.new-device.result did.new.device begins was.0
    (drains did.result s.session did.new.self c.new-device.result did.new.device did.ensures) was.1 in
    (rw c.into_seat.ensures next.0, rw c.into_seat.ensures next.1)

pub returns : goal.returns
returns g c =
    let was = c.self.invariant in
    let s = c.self.inside in
    let did = c.drain-drained in
    let begins = at_seat s.number c.new-device.result s.seat c.new-caller.result c.replace-seat.result c.replace-seat.ensures.value c.new-caller.ensures c.new-device.ensures in
    let new : Seated = record { number = s.number; shared = did.new.self; seat = c.into_seat.result; closed = s.closed } in
    subst (λ (z : Seated). DoesUnder (Drains (CallsUnder g.D.Disk.honest) did.result) z new) c.self.view_is
    (record { after = did.new.device; has = c.into_seat.ensures; does = subst (λ (x : SessionSeat). Drains (CallsUnder g.D.Disk.honest) did.result s.session x did.new.self did.new.device) begins did.ensures; rest = refl })
