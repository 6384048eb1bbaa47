use Rattle.psu_run.proofs.Common.{◌≡◌, ◌≤◌, ◌∙◌, [], inl, inr, refl, Consumes-nil, IsAsBefore, IsOldOrSame, Memory, disk_from, held, passed, weaken, fault_disk, None, sym}
use Rattle.psu_run.proofs.Cuts.{writes_none}
use Rattle.psu_run.specs.Ends.{failed_reads}
use Rattle.psu_run.specs.Lines.{ReadsNoFurther}
use Rattle.psu_power_loss.proofs.Moments.{keeps_map}
use Rattle.psu_run.proofs.Feeding.{fed_none}
use Rattle.psu_run.proofs.Going.{failures_is}
use Rattle.psu_run.proofs.Input.{end_passed, no_failed_read, no_reads, no_writes, until_fails, writes_passed}
use Rattle.psu_run.proofs.Reading.{early_counted, keeps_count, keeps_size, passed_disk, read_front, run_with_moments}
use Rattle.psu_run.proofs.engine.run.Goals as goal

-- ---- it does not power on

pub returns-in-Err-clause-early : goal.returns-in-Err-clause-early
returns-in-Err-clause-early g c =
    let refused = c.in-Err.ensures.refused in let old = g.D.Disk.state (disk_from c.args.start) in
    inl (
      record {
        why = refused.0;
        is = refused.1;
        reason = refused.2;
        unread = refl;
        unwritten = writes_none (g.W.Sink.written c.args.writer.now);
        kept = λ h. c.in-Err.ensures.left h;
      },
      λ h t. weaken g.D.Disk.moment g.D.Disk.left_since (disk_from c.args.start) (fault_disk c.in-Err.fault) (IsOldOrSame old) (IsAsBefore old) (c.in-Err.ensures.time_refused h t) (λ x kept. keeps_map old x kept),
    )

-- ---- memory is refused before anything is read

pub returns-in-Err-piece_buffer-clause-early : goal.returns-in-Err-piece_buffer-clause-early
returns-in-Err-piece_buffer-clause-early g c =
    let on = c.in-Ok.ensures in let u = g.W.Sink.written c.args.writer.now in let cause = Memory c.in-Err-piece_buffer.sign in
    let early = read_front [] [] _ _ u u (Consumes-nil (g.R.Source.remaining c.args.reader.now)) (fed_none [] c.in-Ok.powered.exec (held u [])) cause c.fault.result c.fault.ensures tt (λ e. cc) in
    inr (run_with_moments c.in-Ok.powered.exec (disk_from c.args.start) on.disk _ _ _ _ _ early.0 early.1 early.2.0 on.starts c.script_is_the_only_text.ensures (λ h t. (g.met.D.Disk.only_now t, on.time h t)))

pub returns-in-Err-piece_buffer-clause-reads : goal.returns-in-Err-piece_buffer-clause-reads
returns-in-Err-piece_buffer-clause-reads g c = rw c.fault.ensures.cause_is (no_reads 0 (g.R.Source.remaining c.args.reader.now) (g.R.Source.reads c.args.reader.now) refl)

pub returns-in-Err-piece_buffer-clause-writes : goal.returns-in-Err-piece_buffer-clause-writes
returns-in-Err-piece_buffer-clause-writes g c = no_writes c.fault.result.cause (g.W.Sink.written c.args.writer.now) (λ e. let bad = sym c.fault.ensures.cause_is ∙ e in cc)

-- ---- it ends early

pub returns-in_err-disk-clause-early : goal.returns-in_err-disk-clause-early
returns-in_err-disk-clause-early g c =
    let on = c.in-Ok.ensures in let early = rw c.new.ensures.powered at c.in_err-disk.ensures.early in
    passed c.from_residual.result c.in_err-disk.field-0.0 _ c.from_residual.ensures.1
    (inr (run_with_moments c.in-Ok.powered.exec (disk_from c.args.start) on.disk _ _ _ _ _ early.0 early.1 early.2.0 on.starts c.script_is_the_only_text.ensures (λ h t. (g.met.D.Disk.only_now t, on.time h t))))

pub returns-in_err-disk-clause-failed : goal.returns-in_err-disk-clause-failed
returns-in_err-disk-clause-failed g c =
    let on = c.in-Ok.ensures in
    passed c.from_residual.result c.in_err-disk.field-0.0 _ c.from_residual.ensures.1
    (early_counted c.in-Ok.powered.exec _ c.in_err-disk.field-0.0 _ _ _ on.whole (failures_is c.in-Ok.powered.exec on.disk.0 on.disk.1 ∙ on.disk.2) (rw c.new.ensures.powered at c.in_err-disk.ensures.early))

pub returns-in_err-disk-clause-extent : goal.returns-in_err-disk-clause-extent
returns-in_err-disk-clause-extent g c =
    let early = rw c.new.ensures.powered at c.in_err-disk.ensures.early in
    passed_disk c.from_residual.result c.in_err-disk.field-0.0 (λ d. g.D.Disk.extent d ≡ g.D.Disk.extent (disk_from c.args.start)) c.from_residual.ensures.1
    (keeps_size c.in-Ok.powered.exec (disk_from c.args.start) c.in-Ok.ensures.disk _ _ _ _ _ early.0 early.1 early.2.0)

pub returns-in_err-disk-clause-later : goal.returns-in_err-disk-clause-later
returns-in_err-disk-clause-later g c =
    let early = rw c.new.ensures.powered at c.in_err-disk.ensures.early in
    passed_disk c.from_residual.result c.in_err-disk.field-0.0 (λ d. g.D.Disk.failures (disk_from c.args.start) ≤ g.D.Disk.failures d) c.from_residual.ensures.1
    (keeps_count c.in-Ok.powered.exec (disk_from c.args.start) c.in-Ok.ensures.disk _ _ _ _ _ early.0 early.1 early.2.0)

-- ---- it succeeds

pub returns-clause-whole : goal.returns-clause-whole
returns-clause-whole g c =
    let on = c.in-Ok.ensures in let whole = rw c.new.ensures.powered at c.in_ok-disk.ensures.whole in
    run_with_moments c.in-Ok.powered.exec (disk_from c.args.start) on.disk _ _ _ _ _ whole.0 whole.1 whole.2 on.starts c.script_is_the_only_text.ensures (λ h t. (g.met.D.Disk.only_now t, on.time h t))

pub returns-clause-extent : goal.returns-clause-extent
returns-clause-extent g c = let whole = rw c.new.ensures.powered at c.in_ok-disk.ensures.whole in keeps_size c.in-Ok.powered.exec (disk_from c.args.start) c.in-Ok.ensures.disk _ _ _ _ _ whole.0 whole.1 whole.2

pub returns-clause-later : goal.returns-clause-later
returns-clause-later g c = let whole = rw c.new.ensures.powered at c.in_ok-disk.ensures.whole in keeps_count c.in-Ok.powered.exec (disk_from c.args.start) c.in-Ok.ensures.disk _ _ _ _ _ whole.0 whole.1 whole.2

pub returns-in-Err-clause-reads : goal.returns-in-Err-clause-reads
returns-in-Err-clause-reads g c = no_reads _ (g.R.Source.remaining c.args.reader.now) (g.R.Source.reads c.args.reader.now) (no_failed_read c.in-Err.fault.cause c.in-Err.ensures.input.0)

-- ---- the writes that fail

pub returns-in-Err-clause-writes : goal.returns-in-Err-clause-writes
returns-in-Err-clause-writes g c = no_writes c.in-Err.fault.cause (g.W.Sink.written c.args.writer.now) c.in-Err.ensures.other

pub returns-in_err-disk-clause-writes : goal.returns-in_err-disk-clause-writes
returns-in_err-disk-clause-writes g c =
    let early = c.in_err-disk.ensures.early in let u = g.W.Sink.written c.args.writer.now in let v = g.W.Sink.written c.execute_pieces.new.writer in
    writes_passed c.from_residual.result c.in_err-disk.field-0.0 u v c.from_residual.ensures.1 (until_fails _ (held u []) (held v []) early.2.0.0 early.2.0.1)

pub returns-clause-writes : goal.returns-clause-writes
returns-clause-writes g c =
    let whole = c.in_ok-disk.ensures.whole in until_fails None (held (g.W.Sink.written c.args.writer.now) []) (held (g.W.Sink.written c.execute_pieces.new.writer) []) whole.2.0 whole.2.1

-- ---- the reads that fail

pub returns-in_err-disk-clause-reads : goal.returns-in_err-disk-clause-reads
returns-in_err-disk-clause-reads g c =
    end_passed c.from_residual.result c.in_err-disk.field-0.0
    (λ end. ReadsNoFurther (failed_reads end) (g.R.Source.remaining c.args.reader.now) (g.R.Source.remaining c.execute_pieces.new.reader) (g.R.Source.reads c.args.reader.now) (g.R.Source.reads c.execute_pieces.new.reader)) c.from_residual.ensures.1 c.in_err-disk.ensures.reads

pub returns-in_err-disk-clause-fault : goal.returns-in_err-disk-clause-fault
returns-in_err-disk-clause-fault g c = passed c.from_residual.result c.in_err-disk.field-0.0 _ c.from_residual.ensures.1 c.in_err-disk.ensures.fault
