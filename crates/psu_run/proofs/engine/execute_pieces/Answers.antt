use Rattle.psu_run.proofs.Common.{◌≡◌, ◌≤◌, ◌∙◌, ◌+◌, ◌++◌, [], take, inl, inr, refl, sym, arith, Read, TooLong, held, passed}
use Rattle.psu_run.proofs.Feeding.{fed_none, fed_then}
use Rattle.psu_run.proofs.Reading.{cut_after, cut_front, end_stop, read_all, read_end, read_front, taken_more}
use Rattle.psu_run.proofs.Input.{further_more, further_none, read_failed, read_more, read_none, read_start, reads_passed}
use Rattle.psu_run.proofs.engine.execute_pieces.Goals as goal

pub reading-init : goal.reading-init
reading-init g c = record {
  seen = [];
  has = read_start _ (g.R.Source.remaining c.args.reader.now) (g.R.Source.reads c.args.reader.now) c.new-intake.ensures.reads;
  taken = sym c.new-intake.ensures.bytes;
  fed = rw c.requires.line (fed_none [] c.args.run.responder.powered.exec (held (g.W.Sink.written c.args.writer.now) []));
  none = c.requires.none;
  fresh = c.requires.fresh;
}

pub returns-in_default-clause-early : goal.returns-in_default-clause-early
returns-in_default-clause-early g c = read_front c.reading.run.lines.line.items c.reading.invariant.seen _ _ _ _ c.reading.invariant.has.taken c.reading.invariant.fed Read c.fault.result c.fault.ensures tt (λ w. cc)

pub returns-then-count-eq0-clause-whole : goal.returns-then-count-eq0-clause-whole
returns-then-count-eq0-clause-whole g c =
    read_end c.reading.run.lines.line.items c.reading.invariant.seen _ _ _ _ c.reading.invariant.has.taken c.reading.invariant.fed c.in_ok-disk.disk _ _ (rw c.if-count-eq0.true at c.in-Ok.ensures.bytes.0)
    (c.in-Ok.ensures.bytes.1 c.if-count-eq0.true (omega (arith, c.requires.room, c.reading.auto.piece, c.read_into.auto.piece))) c.in_ok-disk.ensures.whole

pub returns-in_err-disk-clause-early : goal.returns-in_err-disk-clause-early
returns-in_err-disk-clause-early g c =
    passed c.from_residual.result c.in_err-disk.field-0.0 _ c.from_residual.ensures.1
    (end_stop c.reading.run.lines.line.items c.reading.invariant.seen _ _ _ _ c.reading.invariant.has.taken c.reading.invariant.fed c.in_err-disk.field-0.0 _ _ (rw c.if-count-eq0.true at c.in-Ok.ensures.bytes.0)
    (c.in-Ok.ensures.bytes.1 c.if-count-eq0.true (omega (arith, c.requires.room, c.reading.auto.piece, c.read_into.auto.piece))) c.in_err-disk.ensures.early)

pub returns-in_err-run-clause-early : goal.returns-in_err-run-clause-early
returns-in_err-run-clause-early g c =
    passed c.from_residual-in_err-run.result c.in_err-run.field-0.0 _ c.from_residual-in_err-run.ensures.1
    (cut_front c.reading.run.lines.line.items c.reading.invariant.seen _ _ _ _ c.reading.invariant.has.taken c.reading.invariant.fed c.min-taken.result c.in-Ok.count c.read_into.new.piece c.in_err-run.field-0.0 _ _ (omega (arith, c.min-taken.ensures)) c.in-Ok.ensures.bytes.0 c.in_err-run.ensures.stopped)

pub returns-then-taken-count-clause-early : goal.returns-then-taken-count-clause-early
returns-then-taken-count-clause-early g c =
    cut_after c.reading.run.lines.line.items c.reading.invariant.seen _ _ _ _ c.reading.invariant.has.taken c.reading.invariant.fed c.in_ok-run.run'.lines.line.items c.min-taken.result c.in-Ok.count c.read_into.new.piece
    TooLong c.fault-then-taken-count.result _ _ (omega (arith, c.min-taken.ensures)) c.in-Ok.ensures.bytes.0 c.in_ok-run.ensures.fed c.fault-then-taken-count.ensures tt (λ w. cc)

pub returns-then-taken-count-clause-long : goal.returns-then-taken-count-clause-long
returns-then-taken-count-clause-long g c = λ e.
    let has = read_more c.in-Ok.count c.read_into.new.piece c.reading.invariant.has c.in-Ok.ensures.bytes.0 (rw (c.reading.auto.piece, c.requires.room) at c.in-Ok.ensures.counted.1) c.if-count-eq0.false c.in-Ok.ensures.bound.0 c.count_read.ensures.reads in
    let all = taken_more c.reading.invariant.seen c.read_into.new.piece c.in-Ok.count _ _ _ c.reading.invariant.taken c.in-Ok.ensures.bound.0 c.count_read.ensures.bytes refl in
    (_, _, has, inl (omega (arith, all, c.room.ensures, c.min-taken.ensures, c.if-taken-count.true, c.count_read.ensures.bytes)))

pub reading-preserved : goal.reading-preserved
reading-preserved g c =
    let whole : c.min-taken.result ≡ c.in-Ok.count = omega (arith, c.min-taken.ensures, c.if-taken-count.false) in record {
      seen = c.reading.invariant.seen ++ take c.in-Ok.count c.read_into.new.piece;
      has = read_more c.in-Ok.count c.read_into.new.piece c.reading.invariant.has c.in-Ok.ensures.bytes.0 (rw (c.reading.auto.piece, c.requires.room) at c.in-Ok.ensures.counted.1) c.if-count-eq0.false c.in-Ok.ensures.bound.0 (c.count_bytes.ensures.reads ∙ c.count_read.ensures.reads);
      taken = taken_more c.reading.invariant.seen c.read_into.new.piece c.in-Ok.count _ _ _ c.reading.invariant.taken c.in-Ok.ensures.bound.0 c.count_read.ensures.bytes c.count_bytes.ensures.bytes;
      fed = fed_then [] c.reading.run.lines.line.items c.in_ok-run.run'.lines.line.items c.reading.invariant.seen (take c.in-Ok.count c.read_into.new.piece) (held (g.W.Sink.written c.args.writer.now) []) _ _ c.reading.invariant.fed (rw whole at c.in_ok-run.ensures.fed);
      none = c.in_ok-run.ensures.none;
      fresh = c.in_ok-run.ensures.fresh;
    }

pub returns-then-count-eq0-clause-short : goal.returns-then-count-eq0-clause-short
returns-then-count-eq0-clause-short g c =
    read_all 16777216 c.reading.invariant.seen _ _ (g.R.Source.remaining c.read_into.new.self) c.reading.invariant.has.taken (rw c.if-count-eq0.true at c.in-Ok.ensures.bytes.0)
    (c.in-Ok.ensures.bytes.1 c.if-count-eq0.true (omega (arith, c.requires.room, c.reading.auto.piece, c.read_into.auto.piece))) (omega (arith, c.reading.invariant.taken, c.reading.intake.short))

pub returns-clause-early : goal.returns-clause-early
returns-clause-early g c = read_front c.reading.run.lines.line.items c.reading.invariant.seen _ _ _ _ c.reading.invariant.has.taken c.reading.invariant.fed TooLong c.fault-2.result c.fault-2.ensures tt (λ w. cc)

pub returns-clause-long : goal.returns-clause-long
returns-clause-long g c = λ e.
    let full : c.reading.intake.reads + 1 ≤ 1048576 → ⊥ = λ room. let left = c.reading-test.ensures.1 room in absurd cc in
    (_, _, c.reading.invariant.has, inr (omega (arith, full, c.reading.intake.few)))

-- ---- how far it reads

pub returns-then-count-eq0-clause-ends : goal.returns-then-count-eq0-clause-ends
returns-then-count-eq0-clause-ends g c = (
  _,
  _,
  read_none c.reading.invariant.has (rw c.if-count-eq0.true at c.in-Ok.ensures.bytes.0) (rw (c.reading.auto.piece, c.requires.room) at (c.in-Ok.ensures.counted.0 c.if-count-eq0.true)),
  omega (arith, c.count_read.new.self.few, c.count_read.ensures.reads),
  omega (arith, c.reading.invariant.taken, c.reading.intake.short),
  c.in-Ok.ensures.bytes.1 c.if-count-eq0.true (omega (arith, c.requires.room, c.reading.auto.piece, c.read_into.auto.piece)),
)

pub returns-in_default-clause-reads : goal.returns-in_default-clause-reads
returns-in_default-clause-reads g c =
    rw c.fault.ensures.cause_is (further_none 1 _ _ (read_failed c.reading.invariant.has c.in_default.ensures.bytes (rw (c.reading.auto.piece, c.requires.room) at c.in_default.ensures.counted))
    c.count_read.ensures.reads c.count_read.new.self.few c.reading.invariant.taken c.reading.intake.short)

pub returns-in_default-clause-fault : goal.returns-in_default-clause-fault
returns-in_default-clause-fault g c = λ e. (
  _,
  _,
  read_failed c.reading.invariant.has c.in_default.ensures.bytes (rw (c.reading.auto.piece, c.requires.room) at c.in_default.ensures.counted),
  omega (arith, c.count_read.new.self.few, c.count_read.ensures.reads),
  omega (arith, c.reading.invariant.taken, c.reading.intake.short),
)

pub returns-then-count-eq0-clause-reads : goal.returns-then-count-eq0-clause-reads
returns-then-count-eq0-clause-reads g c = further_none 0 _ _ (read_none c.reading.invariant.has (rw c.if-count-eq0.true at c.in-Ok.ensures.bytes.0) (rw (c.reading.auto.piece, c.requires.room) at (c.in-Ok.ensures.counted.0 c.if-count-eq0.true)))
    c.count_read.ensures.reads c.count_read.new.self.few c.reading.invariant.taken c.reading.intake.short

pub returns-in_err-disk-clause-reads : goal.returns-in_err-disk-clause-reads
returns-in_err-disk-clause-reads g c = reads_passed c.from_residual.result c.in_err-disk.field-0.0 _ _ _ _ c.from_residual.ensures.1 c.in_err-disk.ensures.input.0 (further_none 0 _ _ (read_none c.reading.invariant.has (rw c.if-count-eq0.true at c.in-Ok.ensures.bytes.0) (rw (c.reading.auto.piece, c.requires.room) at (c.in-Ok.ensures.counted.0 c.if-count-eq0.true)))
    c.count_read.ensures.reads c.count_read.new.self.few c.reading.invariant.taken c.reading.intake.short)

pub returns-in_err-disk-clause-fault : goal.returns-in_err-disk-clause-fault
returns-in_err-disk-clause-fault g c = passed c.from_residual.result c.in_err-disk.field-0.0 _ c.from_residual.ensures.1 (λ e. absurd (c.in_err-disk.ensures.input.0 e))

pub returns-in_err-run-clause-reads : goal.returns-in_err-run-clause-reads
returns-in_err-run-clause-reads g c = reads_passed c.from_residual-in_err-run.result c.in_err-run.field-0.0 _ _ _ _ c.from_residual-in_err-run.ensures.1 c.in_err-run.ensures.input.0 (further_more c.in-Ok.count _ _ c.reading.invariant.seen c.read_into.new.piece c.reading.invariant.has c.in-Ok.ensures.bytes.0 (rw (c.reading.auto.piece, c.requires.room) at c.in-Ok.ensures.counted.1) c.if-count-eq0.false
    c.in-Ok.ensures.bound.0 c.count_read.ensures.reads c.count_read.new.self.few c.reading.invariant.taken c.reading.intake.short (c.read_into.auto.piece ∙ c.reading.auto.piece ∙ c.requires.room))

pub returns-in_err-run-clause-fault : goal.returns-in_err-run-clause-fault
returns-in_err-run-clause-fault g c = passed c.from_residual-in_err-run.result c.in_err-run.field-0.0 _ c.from_residual-in_err-run.ensures.1 (λ e. absurd (c.in_err-run.ensures.input.0 e))

pub returns-then-taken-count-clause-reads : goal.returns-then-taken-count-clause-reads
returns-then-taken-count-clause-reads g c = rw c.fault-then-taken-count.ensures.cause_is (further_more c.in-Ok.count _ _ c.reading.invariant.seen c.read_into.new.piece c.reading.invariant.has c.in-Ok.ensures.bytes.0 (rw (c.reading.auto.piece, c.requires.room) at c.in-Ok.ensures.counted.1) c.if-count-eq0.false
    c.in-Ok.ensures.bound.0 c.count_read.ensures.reads c.count_read.new.self.few c.reading.invariant.taken c.reading.intake.short (c.read_into.auto.piece ∙ c.reading.auto.piece ∙ c.requires.room))

pub returns-clause-reads : goal.returns-clause-reads
returns-clause-reads g c = rw c.fault-2.ensures.cause_is (_, _, _, c.reading.invariant.has, c.reading.intake.few, omega (arith, c.reading.invariant.taken, c.reading.intake.short))
