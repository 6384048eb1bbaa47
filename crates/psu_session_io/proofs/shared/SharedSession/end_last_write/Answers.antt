use Rattle.std.proofs.Common.{◌≡◌, false, ap, refl, subst}
use Rattle.psu_session.specs.Phases.{phase_ended}
use Rattle.psu_session.specs.State.{Shown, writes}
use Rattle.psu_session_io.specs.Ending.{Discards}
use Rattle.psu_session_io.specs.Shared.{Shared}
use Rattle.psu_session_io.proofs.Discarding.{to, write_ended, write_ends}
use Rattle.psu_session_io.proofs.shared.SharedSession.end_last_write.Goals as goal

pub returns-clause-step : goal.returns-clause-step
returns-clause-step c =
    let s : Shared = record { phase = c.self.inside.session.phase; state = c.self.inside.session.state; waits = c.self.inside.waits; sync_waits = c.self.inside.sync_reader_waits; async_waits = c.self.inside.async_reader_waits } in
    subst (λ (z : Shared). Discards z (to s c.written.new.self)) c.self.view_is
    (write_ends c.args.side s c.self.inside.session c.written.new.self refl c.written.ensures.done c.written.ensures.none c.written.ensures.over c.written.ensures.phase)

pub returns-clause-ended : goal.returns-clause-ended
returns-clause-ended c =
    subst (λ (z : Shared). phase_ended z.phase ≡ false → writes c.args.side c.written.new.self.state ≡ false) c.self.view_is
    (λ going. write_ended c.args.side c.self.inside.session.state c.written.new.self (writes c.args.side c.self.inside.session.state) refl (c.written.ensures.done going) (λ free. ap (λ (z : Shown). z.state) (c.written.ensures.none free)))

pub returns-clause-phase : goal.returns-clause-phase
returns-clause-phase c = subst (λ (z : Shared). c.written.new.self.phase ≡ z.phase) c.self.view_is c.written.ensures.phase
