use Rattle.std.proofs.Common.{⊎_elim, ℕ, List, None, Some, inl, inr, subst}
use Rattle.psu_run.specs.Ends.{fault_disk}
use Rattle.psu_run.specs.Results.{WritesTo}
use Rattle.psu_guide.specs.Plays.{holding}
use Rattle.psu_guide.proofs.play.written.Goals as goal

-- the writer held nothing
pub returns-in-Ok-clause-whole : goal.returns-in-Ok-clause-whole
returns-in-Ok-clause-whole g c = (
  c.in-Ok._over,
  subst (λ (x : List ℕ). WritesTo g.D.Disk.honest None (g.D.Disk.state c.args.disk).bytes (Some c.args.sent.now) (g.D.Disk.failures c.args.disk) (g.D.Disk.failures c.in-Ok._over) (holding x) (holding c.run.new.writer.items) (g.D.Disk.state c.in-Ok._over))
      c.new-text.ensures.items c.in-Ok.ensures.whole.0,
)

pub returns-in-Err-clause-early : goal.returns-in-Err-clause-early
returns-in-Err-clause-early g c = (fault_disk c.in-Err.fault, c.run.new.reader.now, c.run.new.writer.items, ⊎_elim (λ none. inl none.0) (λ ran. inr ran.0) (rw c.new-text.ensures.items at c.in-Err.ensures.early), c.in-Err.ensures.long)
