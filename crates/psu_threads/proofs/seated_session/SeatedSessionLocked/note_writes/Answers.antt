use Rattle.std.specs.Arc.{arc_value}
use Rattle.psu_session_io.proofs.Extending.{notes}
use Rattle.psu_threads.specs.Seated.{under}
use Rattle.psu_threads.proofs.Seating.{uncalled}
use Rattle.psu_threads.proofs.seated_session.SeatedSessionLocked.note_writes.Goals as goal

pub invariant_of-self : goal.invariant_of-self
invariant_of-self g c =
    let was = c.self.invariant in
    let s = c.self.inside in
    let t = c.note_writes.new.self in
    let next = uncalled g.D.Disk.honest (arc_value s.bench) s.number s.closed s.session t s.seat was.0 (notes s.session t (under s.number s.seat) c.note_writes.ensures) was.1 in
    (next.0, next.1)
