use Rattle.psu_run.proofs.Common.{◌≡◌, ◌∙◌, Some, arith, sym, disk_in, finished_disk, finished_of, reads_left, serves_gave_back, same_Some}
use Rattle.psu_run.proofs.jobs.run_job.Goals as goal

pub returns-clause-run : goal.returns-clause-run
returns-clause-run g c =
    let end = c.run-finished.result.end in let there = c.in-Ok.ensures.idle_store in
    let now : disk_in c.give_back.new.self ≡ Some (finished_disk end) = grind arith in (
      finished_of end,
      c.in-Ok.field-0,
      serves_gave_back c.args.exec.now.device c.give_back.new.self.device (finished_of end) (Some c.in-Ok.field-0) c.in-Ok.ensures.step,
      rw (← c.end.ensures) c.refused_in-refused.ensures.some,
      rw (← c.end.ensures) c.refused_in-refused.ensures.none,
      grind arith,
      λ h disk is.
          let same = same_Some (finished_disk end) disk (sym now ∙ is) in
          let at = c.in-Ok.ensures.stands h in let own = c.run-finished.ensures.stands h in let read = reads_left (g.D.Disk.state (finished_disk end)) in
          rw (← same) (grind arith, λ broke. grind arith, λ worn. grind arith),
    )

pub returns-clause-disk : goal.returns-clause-disk
returns-clause-disk g c =
    let end = c.run-finished.result.end in let there = c.in-Ok.ensures.idle_store in let ran = c.run-finished.ensures in
    let now : disk_in c.give_back.new.self ≡ Some (finished_disk end) = grind arith in (finished_disk end, now, ran.later, ran.extent, ran.time)
