use Rattle.std.proofs.Common.{◌≡◌, ◌<◌, IfOk, false, subst, sym}
use Rattle.psu_session.specs.Phases.{phase_ended, units_in}
use Rattle.psu_session.specs.Proceeding.{PassesTo}
use Rattle.psu_session.specs.Serving.{PerformsStep}
use Rattle.psu_session.specs.Shown.{state_of}
use Rattle.psu_session.specs.State.{Shown}
use Rattle.psu_session.specs.Step.{IsReachable}
use Rattle.psu_session.specs.declared.proceeding.Proceeded.{Proceeded}
use Rattle.psu_session.specs.declared.phase.Phase.{Phase}
use Rattle.psu_session.proofs.Stepping.{reached_if_ok}
use Rattle.psu_session.proofs.Rooms.{not_over, passes, still_ok, units_after_ok}
use Rattle.psu_session.proofs.session.HislipSession.proceed.Goals as goal

pub invariant_of-self : goal.invariant_of-self
invariant_of-self g c = λ e.
    let was = c.self.invariant (not_over c.self.inside.phase c.in_default.not-Over) in
    let ended = c.end_step-self-inside in
    let kept = still_ok c.proceed-done.new.self ended.new.self c.after-phase.result ended.result c.proceed-done.result ended.ensures.ended ended.ensures.phase e in (
      subst IsReachable (sym ended.ensures.same) (reached_if_ok c.proceed-done.result (λ x m. (m.done, m.is.proceeds.steps)) kept.0 c.proceed-done.ensures.done was.0),
      kept.2,
      subst (λ (z : Phase). 0 < units_in z) (sym kept.1)
          (units_after_ok c.proceed-done.result c.self.inside.phase c.after-phase.result c.proceed-done.new.left kept.0 c.after-phase.ensures (subst (λ (z : Phase). phase_ended z ≡ false) kept.1 e)),
    )

pub returns-clause-done : goal.returns-clause-done
returns-clause-done g c =
    let does = g.D.Device.does in
    let room = (c.self.invariant (not_over c.self.inside.phase c.in_default.not-Over)).1 in
    let ended = c.end_step-self-inside in
    subst (λ (z : Shown). IfOk c.proceed-done.result (λ (proceeded : Proceeded). PerformsStep does (PassesTo z.phase proceeded ended.result) z.state c.args.device.now (state_of ended.new.self) c.proceed-done.new.device)) c.self.view_is
    (passes does c.proceed-done.result c.self.inside.parts c.proceed-done.new.self ended.new.self c.self.inside.phase c.after-phase.result ended.result c.units-left.result c.proceed-done.new.left c.args.device.now c.proceed-done.new.device c.units-left.ensures
    c.proceed-done.ensures.done c.after-phase.ensures ended.ensures.phase c.proceed-done.ensures.capacity room ended.ensures.same)
