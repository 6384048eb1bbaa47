use Rattle.std.proofs.Common.{◌≡◌, false, refl, subst}
use Rattle.std.specs.Prelude.{IfOk}
use Rattle.std.specs.Arc.{arc_value}
use Rattle.psu_session.specs.declared.phase.Phase.TheVariants.{Open}
use Rattle.psu_session_io.specs.Sharing.{Notifies}
use Rattle.psu_session_io.proofs.Extending.{ends_notified, notifies, of_result}
use Rattle.psu_threads.specs.Called.{CallsUnder, SessionSeat}
use Rattle.psu_threads.specs.Seated.{DoesUnder, Seated}
use Rattle.psu_threads.proofs.Seating.{at_seat, both_of_error, of_value, stepped}
use Rattle.psu_threads.proofs.seated_session.SeatedSession.notify.Goals as goal

pub invariant_of-self : goal.invariant_of-self
invariant_of-self g c =
    let was = c.self.invariant in
    let s = c.self.inside in
    let did = c.notify-notified in
    let begins = at_seat s.number c.new-device.result s.seat c.new-caller.result c.replace-seat.result c.replace-seat.ensures.value c.new-caller.ensures c.new-device.ensures in
    let next = stepped g.D.Disk.honest (arc_value s.bench) s.number s.closed s.session did.new.self s.seat c.new-device.result did.new.device begins was.0
    (of_result _ _ did.result (λ r is. notifies c.args.now c.args.arrived.notice s.session did.new.self c.new-device.result did.new.device is.0 is.1) (λ is. ends_notified c.args.now c.args.arrived.notice s.session did.new.self c.new-device.result did.new.device is.0 is.1) did.ensures.notified (both_of_error _ _ did.result did.ensures.ended did.ensures.uncalled)) was.1 in
    (rw c.into_seat.ensures next.0, rw c.into_seat.ensures next.1)

pub returns-clause-notified : goal.returns-clause-notified
returns-clause-notified g c =
    let was = c.self.invariant in
    let s = c.self.inside in
    let did = c.notify-notified in
    let begins = at_seat s.number c.new-device.result s.seat c.new-caller.result c.replace-seat.result c.replace-seat.ensures.value c.new-caller.ensures c.new-device.ensures in
    let new : Seated = record { number = s.number; shared = did.new.self; seat = c.into_seat.result; closed = s.closed } in
    subst (λ (z : Seated). IfOk did.result (λ r. (z.shared.phase ≡ Open) × DoesUnder (Notifies (CallsUnder g.D.Disk.honest) c.args.now c.args.arrived.notice) z new × (r.again ≡ false))) c.self.view_is
    (of_value _ _ did.result (λ r is. (is.0, record { after = did.new.device; has = c.into_seat.ensures; does = subst (λ (x : SessionSeat). Notifies (CallsUnder g.D.Disk.honest) c.args.now c.args.arrived.notice s.session x did.new.self did.new.device) begins is.1; rest = refl }, is.2)) did.ensures.notified)
