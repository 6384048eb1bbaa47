use Rattle.std.proofs.Common.{refl, subst}
use Rattle.std.specs.Prelude.{IfOk, OnErr}
use Rattle.std.specs.Arc.{arc_value}
use Rattle.psu_session_io.specs.Sharing.{EndsReceiving, Receives}
use Rattle.psu_session_io.proofs.Extending.{ends_receiving, of_result, receives}
use Rattle.psu_threads.specs.Called.{CallsUnder, SessionSeat}
use Rattle.psu_threads.specs.Seated.{DoesUnder, Seated}
use Rattle.psu_threads.proofs.Seating.{at_seat, of_error, of_value, stepped}
use Rattle.psu_threads.proofs.seated_session.SeatedSession.receive.Goals as goal

pub invariant_of-self : goal.invariant_of-self
invariant_of-self g c =
    let was = c.self.invariant in
    let s = c.self.inside in
    let did = c.receive-received in
    let begins = at_seat s.number c.new-device.result s.seat c.new-caller.result c.replace-seat.result c.replace-seat.ensures.value c.new-caller.ensures c.new-device.ensures in
    let next = stepped g.D.Disk.honest (arc_value s.bench) s.number s.closed s.session did.new.self s.seat c.new-device.result did.new.device begins was.0
    (of_result _ _ did.result (λ r is. receives c.args.now g.S.ConnectionSide.SIDE c.args.bytes.bytes.now r s.session did.new.self c.new-device.result did.new.device is) (λ is. ends_receiving c.args.now g.S.ConnectionSide.SIDE c.args.bytes.bytes.now s.session did.new.self c.new-device.result did.new.device is) did.ensures.received did.ensures.ended) was.1 in
    (rw c.into_seat.ensures next.0, rw c.into_seat.ensures next.1)

pub returns-clause-received : goal.returns-clause-received
returns-clause-received g c =
    let was = c.self.invariant in
    let s = c.self.inside in
    let did = c.receive-received in
    let begins = at_seat s.number c.new-device.result s.seat c.new-caller.result c.replace-seat.result c.replace-seat.ensures.value c.new-caller.ensures c.new-device.ensures in
    let new : Seated = record { number = s.number; shared = did.new.self; seat = c.into_seat.result; closed = s.closed } in
    subst (λ (z : Seated). IfOk did.result (λ r. DoesUnder (Receives (CallsUnder g.D.Disk.honest) c.args.now g.S.ConnectionSide.SIDE c.args.bytes.bytes.now r) z new)) c.self.view_is
    (of_value _ _ did.result (λ r is. record { after = did.new.device; has = c.into_seat.ensures; does = subst (λ (x : SessionSeat). Receives (CallsUnder g.D.Disk.honest) c.args.now g.S.ConnectionSide.SIDE c.args.bytes.bytes.now r s.session x did.new.self did.new.device) begins is; rest = refl }) did.ensures.received)

pub returns-clause-ended : goal.returns-clause-ended
returns-clause-ended g c =
    let was = c.self.invariant in
    let s = c.self.inside in
    let did = c.receive-received in
    let begins = at_seat s.number c.new-device.result s.seat c.new-caller.result c.replace-seat.result c.replace-seat.ensures.value c.new-caller.ensures c.new-device.ensures in
    let new : Seated = record { number = s.number; shared = did.new.self; seat = c.into_seat.result; closed = s.closed } in
    subst (λ (z : Seated). OnErr did.result (DoesUnder (EndsReceiving (CallsUnder g.D.Disk.honest) c.args.now g.S.ConnectionSide.SIDE c.args.bytes.bytes.now) z new)) c.self.view_is
    (of_error _ _ did.result (λ is. record { after = did.new.device; has = c.into_seat.ensures; does = subst (λ (x : SessionSeat). EndsReceiving (CallsUnder g.D.Disk.honest) c.args.now g.S.ConnectionSide.SIDE c.args.bytes.bytes.now s.session x did.new.self did.new.device) begins is; rest = refl }) did.ensures.ended)
