use Rattle.std.proofs.Common.{◌≡◌, false, subst}
use Rattle.psu_session.specs.Phases.{phase_ended}
use Rattle.psu_session.specs.Step.{IsReachable}
use Rattle.psu_session.specs.State.{Shown}
use Rattle.psu_session.proofs.session.HislipSession.phase.Goals as goal

pub returns-clause-history : goal.returns-clause-history
returns-clause-history c = subst (λ (z : Shown). phase_ended z.phase ≡ false → IsReachable z.state) c.self.view_is (λ e. (c.self.invariant e).0)
