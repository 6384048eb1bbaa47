use Rattle.std.proofs.Common.{◌≡◌, None, subst}
use Rattle.std.specs.Prelude.{IsTrue}
use Rattle.psu_session.specs.State.{HasWork}
use Rattle.psu_session_io.specs.Shared.{Shared}
use Rattle.psu_session_io.proofs.shared.SharedSession.is_executable.Goals as goal

pub returns-in-None : goal.returns-in-None
returns-in-None c =
    subst (λ (z : Shared). (IsTrue c.has_work.result → (z.waits ≡ None) × HasWork z.state) × ((z.waits ≡ None) × HasWork z.state → IsTrue c.has_work.result)) c.self.view_is
    (λ h. (c.in-None.is, c.has_work.ensures.0 h), λ p. c.has_work.ensures.1 p.1)
