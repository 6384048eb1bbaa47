use Rattle.psu_run.proofs.Common.{◌≤◌, ◌+◌, ◌^◌, arith, nat_tests}
use Rattle.psu_run.proofs.Going.{worn_shows}
use Rattle.psu_run.proofs.run_fault.RunFault.is_worn.Goals as goal

pub returns-in-Store-clause-shown : goal.returns-in-Store-clause-shown
returns-in-Store-clause-shown g c = λ h is.
    let last : 2 ^ 64 ≤ c.number.result + 1 = grind (arith, nat_tests, is) in
    rw c.in-Store.is (worn_shows (g.D.Disk.state c.in-Store.store.disk) c.number.result (c.number.ensures.represents h) last)
