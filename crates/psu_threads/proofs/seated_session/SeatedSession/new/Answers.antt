use Rattle.std.proofs.Common.{ℕ, subst, sym}
use Rattle.psu_bench.proofs.Seats.{is_of}
use Rattle.psu_threads.specs.Seated.{HasBegun}
use Rattle.psu_threads.proofs.Seating.{seated_new}
use Rattle.psu_threads.proofs.seated_session.SeatedSession.new.Goals as goal

pub invariant_of-session : goal.invariant_of-session
invariant_of-session g c =
    let parts = c.into_parts-number in
    let s = c.args.session in
    let begun = subst (λ (n : ℕ). HasBegun n c.requires.0 s.phase s.state) (sym parts.ensures.number) c.requires.1 in
    let access = parts.result.1 in
    (is_of _ access.seat access.same access.here, seated_new g.D.Disk.honest parts.result.0 c.requires.0 s access.seat begun parts.ensures.opened)
