use Rattle.std.proofs.Common.{subst}
use Rattle.psu_session.specs.Proceeding.{IsNextWork}
use Rattle.psu_session.specs.Shown.{state_of}
use Rattle.psu_session.specs.declared.queue.NextWork.{NextWork}
use Rattle.psu_session.proofs.Serving.{on_if_ok}
use Rattle.psu_session.proofs.Stepping.{freed, idle}
use Rattle.psu_session.proofs.Stopping.{on_err}
use Rattle.psu_session.proofs.parts.Parts.proceed.Goals as goal

pub returns-in-Nothing-clause-done : goal.returns-in-Nothing-clause-done
returns-in-Nothing-clause-done g c =
    let s = state_of c.args.self.now in
    let t = state_of c.begin_next.new.self in
    idle g.D.Device.does c.args.left.now s t c.args.device.now (subst (λ (next : NextWork). IsNextWork s next t) c.in-Nothing.is c.begin_next.ensures.next)

pub returns-in-Transmission-clause-done : goal.returns-in-Transmission-clause-done
returns-in-Transmission-clause-done g c =
    let s = state_of c.args.self.now in
    let t = state_of c.begin_next.new.self in
    let first = subst (λ (next : NextWork). IsNextWork s next t) c.in-Transmission.is c.begin_next.ensures.next in
    on_if_ok c.execute.result (λ proceeded performs. performs s first.0 first.1) c.execute.ensures.done

pub returns-in-Transmission-clause-stopped : goal.returns-in-Transmission-clause-stopped
returns-in-Transmission-clause-stopped g c =
    let s = state_of c.args.self.now in
    let t = state_of c.begin_next.new.self in
    let first = subst (λ (next : NextWork). IsNextWork s next t) c.in-Transmission.is c.begin_next.ensures.next in
    on_err c.execute.result (λ stops. stops s first.0 first.1) c.execute.ensures.stopped

pub returns-in-Release-clause-done : goal.returns-in-Release-clause-done
returns-in-Release-clause-done g c =
    let s = state_of c.args.self.now in
    let t = state_of c.begin_next.new.self in
    freed g.D.Device.does c.args.left.now s t (state_of c.release_lock.new.self) c.args.device.now c.release_lock.new.device
    (subst (λ (next : NextWork). IsNextWork s next t) c.in-Release.is c.begin_next.ensures.next) c.release_lock.ensures.frees
