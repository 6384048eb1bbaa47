use Rattle.std.proofs.Common.{◌≡◌, ℕ, Bool, List, refl, subst}
use Rattle.psu_turn.specs.Seats.{SeatCalls}
use Rattle.psu_exec.specs.Calls.{Entry}
use Rattle.psu_bench.specs.Calls.{AllowsOn}
use Rattle.psu_threads.specs.Called.{SessionSeat}
use Rattle.psu_threads.proofs.shared_device.SharedDeviceDevice.mark_sent.Goals as goal

pub returns : goal.returns
returns g c =
    let sent = c.mark_sent-caused in
    rw c.others.ensures
    (subst (λ (z : SessionSeat). (c.self.inside.session ≡ z.session) × ((requesting : List ℕ) × (work : Bool) × SeatCalls (AllowsOn g.D.Disk.honest) z.seat (Entry.Sent z.session requesting work) sent.new.self)) c.self.view_is
    (refl, (sent.result.requesting, sent.result.wakes_flusher, sent.ensures.call)))
