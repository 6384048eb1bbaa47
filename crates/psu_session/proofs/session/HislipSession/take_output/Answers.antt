use Rattle.std.proofs.Common.{◌<◌, subst, sym}
use Rattle.psu_session.specs.Phases.{units_in}
use Rattle.psu_session.specs.Step.{IsReachable}
use Rattle.psu_session.specs.Step.SessionStep.{Takes}
use Rattle.psu_session.specs.declared.phase.Phase.{Phase}
use Rattle.psu_session.proofs.Stepping.{one_step, reached_if_some}
use Rattle.psu_session.proofs.Rooms.{not_over, still}
use Rattle.psu_session.proofs.session.HislipSession.take_output.Goals as goal

pub invariant_of-self : goal.invariant_of-self
invariant_of-self c = λ e.
    let was = c.self.invariant (not_over c.self.inside.phase c.in_default.not-Over) in
    let kept = still c.take-taken.new.self c.keep-self-inside.new.self c.self.inside.phase c.keep-self-inside.result c.keep-self-inside.ensures.phase e in (
      subst IsReachable (sym c.keep-self-inside.ensures.same) (reached_if_some c.take-taken.result (λ x m. (_, one_step (Takes _ _ m))) c.take-taken.ensures.some c.take-taken.ensures.none was.0),
      kept.1,
      subst (λ (z : Phase). 0 < units_in z) (sym kept.0) was.2,
    )
