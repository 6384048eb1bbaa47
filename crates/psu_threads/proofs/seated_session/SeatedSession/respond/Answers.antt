use Rattle.std.specs.Arc.{arc_value}
use Rattle.psu_session_io.proofs.Extending.{ends_responding, of_result, responds}
use Rattle.psu_threads.specs.Seated.{under}
use Rattle.psu_threads.proofs.Seating.{uncalled}
use Rattle.psu_threads.proofs.seated_session.SeatedSession.respond.Goals as goal

pub invariant_of-self : goal.invariant_of-self
invariant_of-self g c =
    let was = c.self.invariant in
    let s = c.self.inside in
    let did = c.respond in
    let x = under s.number s.seat in
    let next = uncalled g.D.Disk.honest (arc_value s.bench) s.number s.closed s.session did.new.self s.seat was.0
    (of_result _ _ did.result (λ r is. responds r s.session did.new.self x is) (λ is. ends_responding s.session did.new.self x is) did.ensures.responded did.ensures.ended) was.1 in
    (next.0, next.1)
