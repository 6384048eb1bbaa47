use Rattle.psu_session.specs.Step.SessionStep.{Writes}
use Rattle.psu_session.proofs.Stepping.{one_step, reached_by}
use Rattle.psu_session.proofs.session.HislipSession.written.Goals as goal

pub invariant_of-self : goal.invariant_of-self
invariant_of-self c = λ e. (reached_by (c.self.invariant e).0 (one_step (Writes _ c.written.ensures.done)), c.written.ensures.room (c.self.invariant e).1, (c.self.invariant e).2)
