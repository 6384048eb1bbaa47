use Rattle.std.proofs.Common.{subst, sym}
use Rattle.std.specs.Prelude.{IsTrue}
use Rattle.psu_session.specs.State.{HasWork}
use Rattle.psu_session_io.specs.Shared.{Shared}
use Rattle.psu_session_io.specs.Sharing.{HasMore}
use Rattle.psu_session_io.proofs.shared.SharedSession.has_more.Goals as goal

pub returns-in-Completed : goal.returns-in-Completed
returns-in-Completed c =
    subst (λ p. (IsTrue c.has_work.result → HasMore p c.args.self.now.state) × (HasMore p c.args.self.now.state → IsTrue c.has_work.result)) (sym c.in-Completed.is)
    (subst (λ (z : Shared). (IsTrue c.has_work.result → HasWork z.state) × (HasWork z.state → IsTrue c.has_work.result)) c.self.view_is c.has_work.ensures)
