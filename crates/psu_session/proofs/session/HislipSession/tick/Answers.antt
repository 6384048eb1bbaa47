use Rattle.std.proofs.Common.{◌<◌, [], refl, subst, sym}
use Rattle.psu_session.specs.Phases.{units_in}
use Rattle.psu_session.specs.Step.{IsReachable}
use Rattle.psu_session.specs.Step.SessionStep.{Ticks}
use Rattle.psu_session.specs.declared.phase.Phase.{Phase}
use Rattle.psu_session.proofs.Stepping.{one_step, reached_on_ok}
use Rattle.psu_session.proofs.Rooms.{not_over, still_ok}
use Rattle.psu_session.proofs.session.HislipSession.tick.Goals as goal

pub invariant_of-self : goal.invariant_of-self
invariant_of-self c = λ e.
    let was = c.self.invariant (not_over c.self.inside.phase c.in_default.not-Over) in
    let ended = c.end_step-self-inside in
    let kept = still_ok c.settle-done.new.self ended.new.self c.self.inside.phase ended.result c.settle-done.result ended.ensures.ended ended.ensures.phase e in (
      subst IsReachable (sym ended.ensures.same) (reached_on_ok c.settle-done.result (λ m. ([], one_step (Ticks _ (record { are = refl; then = m })))) kept.0 c.settle-done.ensures.done was.0),
      kept.2,
      subst (λ (z : Phase). 0 < units_in z) (sym kept.1) was.2,
    )
