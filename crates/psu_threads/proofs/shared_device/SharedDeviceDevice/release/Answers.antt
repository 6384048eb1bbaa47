use Rattle.std.proofs.Common.{◌≡◌, ◌∙◌, ℕ, List, Ok, refl, subst}
use Rattle.psu_turn.specs.Seats.{SeatCalls}
use Rattle.psu_exec.specs.Calls.{Entry}
use Rattle.psu_bench.specs.Calls.{AllowsOn}
use Rattle.psu_threads.specs.Called.{SessionSeat}
use Rattle.psu_threads.proofs.shared_device.SharedDeviceDevice.release.Goals as goal

pub returns : goal.returns
returns g c =
    let ok = c.in_ok-freed in
    subst (λ (z : SessionSeat). (c.self.inside.session ≡ z.session) × ((granted : List ℕ) × SeatCalls (AllowsOn g.D.Disk.honest) z.seat (Entry.Released z.session (Ok (ok.freed, granted))) c.release.new.self)) (c.self.view_is ∙ c.others-others.ensures)
    (refl, (ok.granted.sessions, ok.ensures.call))
