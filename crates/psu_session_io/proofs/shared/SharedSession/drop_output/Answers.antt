use Rattle.std.proofs.Common.{◌≡◌, false, [], subst}
use Rattle.psu_session.specs.Phases.{phase_ended}
use Rattle.psu_session.specs.State.{output, writes}
use Rattle.psu_session_io.specs.Ending.{Discards}
use Rattle.psu_session_io.specs.Shared.{Shared}
use Rattle.psu_session_io.proofs.Discarding.{output_dropped, output_gone, to}
use Rattle.psu_session_io.proofs.shared.SharedSession.drop_output.Goals as goal

pub returns-clause-step : goal.returns-clause-step
returns-clause-step c =
    let s : Shared = record { phase = c.self.inside.session.phase; state = c.self.inside.session.state; waits = c.self.inside.waits; sync_waits = c.self.inside.sync_reader_waits; async_waits = c.self.inside.async_reader_waits } in
    let taken = c.take_output-dropped in
    subst (λ (z : Shared). Discards z (to s taken.new.self)) c.self.view_is
    (output_dropped _ _ (λ bytes. bytes.items) c.args.side s taken.new.self taken.result taken.ensures.some taken.ensures.none taken.ensures.continues taken.ensures.ended)

pub returns-clause-dropped : goal.returns-clause-dropped
returns-clause-dropped c =
    let taken = c.take_output-dropped in
    subst (λ (z : Shared). phase_ended z.phase ≡ false → writes c.args.side z.state ≡ false → output c.args.side taken.new.self.state ≡ []) c.self.view_is
    (λ going free. output_gone _ (λ bytes. bytes.items) c.args.side c.self.inside.session.state c.self.inside.session.phase taken.new.self taken.result taken.ensures.some taken.ensures.none taken.ensures.ended going free)
