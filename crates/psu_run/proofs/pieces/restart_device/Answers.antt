use Rattle.psu_run.proofs.Common.{fault_disk, ◌∙◌, [], arith, sym, passed}
use Rattle.psu_run.proofs.Cuts.{until_none}
use Rattle.psu_run.proofs.Stopping.{EndedWhole, halted_fails, power_fails, power_runs, power_stops, reopen_stops, restarts}
use Rattle.psu_run.proofs.pieces.restart_device.Goals as goal

pub returns-in-Err-clause-stops : goal.returns-in-Err-clause-stops
returns-in-Err-clause-stops g c = λ rest output.
    let fault = c.fault.result in let f = c.fault.ensures in
    (([], until_none _ output (λ e. grind arith), reopen_stops c.in-Err.cause fault rest c.in-Err.ensures.stops f c.in-Err.ensures.failed), λ before t. halted_fails before c.in-Err.cause fault f c.in-Err.ensures.stops t)

pub returns-in_err-powered-clause-stops : goal.returns-in_err-powered-clause-stops
returns-in_err-powered-clause-stops g c =
    let on = c.in_err-powered.ensures in let disk = c.into_disk.result in let fault = c.in_err-powered.field-0.0 in
    let ends : EndedWhole c.reopen.new.exec disk = record { whole = c.in-Ok.ensures.mended; same = c.into_disk.ensures.same; stands = λ h. c.into_disk.ensures.stands h c.in-Ok.ensures.mended } in
    passed c.from_residual.result fault _ c.from_residual.ensures.1 (λ rest output. (
      (
        [],
        until_none _ output (λ e. grind arith),
        power_stops c.reopen.new.exec disk ends fault rest c.in-Ok.ensures.reopens c.contents.ensures.consistent on.refused on.memory on.later on.extent on.left (λ h. g.met.D.Disk.sized h (fault_disk fault) ∙ on.extent ∙ sym (g.met.D.Disk.sized h disk)) on.time_refused,
      ),
      λ before t. power_fails c.reopen.new.exec disk ends fault c.in-Ok.ensures.reopens on.failed before t,
    ))

pub returns-clause-runs : goal.returns-clause-runs
returns-clause-runs g c =
    let on = c.in_ok-powered.ensures in let disk = c.into_disk.result in let new = c.in_ok-powered.powered.exec in
    let ends : EndedWhole c.reopen.new.exec disk = record { whole = c.in-Ok.ensures.mended; same = c.into_disk.ensures.same; stands = λ h. c.into_disk.ensures.stands h c.in-Ok.ensures.mended } in
    power_runs c.in-Ok.ensures.reopens (restarts c.reopen.new.exec disk ends new on.starts on.disk on.whole on.time)
