use Rattle.std.proofs.Common.{◌≡◌, false, ◌∙◌, subst, sym}
use Rattle.std.specs.Arc.{arc_value}
use Rattle.psu_exec.specs.Device.{State}
use Rattle.psu_exec.specs.Calls.{Entry}
use Rattle.psu_turn.specs.Seats.{IsOf, Sight}
use Rattle.psu_threads.specs.Seated.{IsSeated}
use Rattle.psu_threads.proofs.Seating.{seated_close}
use Rattle.psu_threads.proofs.seated_session.SeatedSession.close.Goals as goal

pub invariant_of-self : goal.invariant_of-self
invariant_of-self g c =
    let was = c.self.invariant in
    let s = c.self.inside in
    let old = c.new-caller.result in
    let call = c.close_session-granted.ensures.call in
    let same : s.seat ≡ old = sym (c.new-caller.ensures ∙ c.replace-seat.ensures.value) in
    let of = subst (λ (z : Sight State Entry). IsOf (arc_value s.bench) z) same was.0 in
    let is = subst (λ (z : Sight State Entry). IsSeated g.D.Disk.honest s.number false s.session z) same (subst (λ b. IsSeated g.D.Disk.honest s.number b s.session s.seat) c.if-self.false was.1) in (
      rw c.into_seat.ensures (call.same.turn ∙ of.0, (of.1.0, call.same.opening ∙ of.1.1)),
      rw c.into_seat.ensures (seated_close g.D.Disk.honest s.number s.session c.close.new.self old c.close_session-granted.new.self c.close_session-granted.result.sessions c.close.ensures.over call is),
    )
