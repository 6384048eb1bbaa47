use Rattle.psu_run.proofs.Common.{ℕ, ◌+◌, ◌≤◌, ◌^◌, subst, sym, reads_left}
use Rattle.psu_run.proofs.powered_device.PoweredDevice.into_disk.Goals as goal

pub returns-in-Whole-clause-worn : goal.returns-in-Whole-clause-worn
returns-in-Whole-clause-worn g c = λ h worn.
    let reported = c.into_disk.ensures.number h (g.D.Disk.state c.into_disk.result).bytes (reads_left (g.D.Disk.state c.into_disk.result)) in
    subst (λ (n : ℕ). 2 ^ 64 ≤ n + 1) (sym reported) (c.args.self.last c.in-Whole.store c.in-Whole.ensures.0 worn)

pub returns-in-Whole-clause-stands : goal.returns-in-Whole-clause-stands
returns-in-Whole-clause-stands g c = λ h whole image left. rw (← c.in-Whole.ensures.1, ← c.in-Whole.ensures.2) (c.into_disk.ensures.represents h image left)
