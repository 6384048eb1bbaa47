use Rattle.std.proofs.Common.{◌<◌, inr, subst, sym}
use Rattle.psu_session.specs.Phases.{units_in}
use Rattle.psu_session.specs.Step.{IsReachable}
use Rattle.psu_session.specs.Step.SessionStep.{Notifies}
use Rattle.psu_session.specs.declared.phase.Phase.{Phase}
use Rattle.psu_session.proofs.Stepping.{one_step, reached_by}
use Rattle.psu_session.proofs.Rooms.{not_over, still}
use Rattle.psu_session.proofs.session.HislipSession.service_requested.Goals as goal

pub invariant_of-self : goal.invariant_of-self
invariant_of-self g c = λ e.
    let m = c.service_requested.ensures.done in
    let was = c.self.invariant (not_over c.self.inside.phase c.in_default.not-Over) in
    let kept = still c.service_requested.new.self c.keep-self-inside.new.self c.self.inside.phase c.keep-self-inside.result c.keep-self-inside.ensures.phase e in (
      subst IsReachable (sym c.keep-self-inside.ensures.same) (reached_by was.0 (one_step (Notifies (record { is = inr m.are; then = m.then })))),
      kept.1,
      subst (λ (z : Phase). 0 < units_in z) (sym kept.0) was.2,
    )
