use Rattle.psu_run.proofs.Common.{◌≡◌, List, [], ℕ, length, ◌-◌, HasRead, held, nothing}
use Rattle.psu_run.proofs.Feeding.{Fed}
use Rattle.psu_run.proofs.engine.execute_pieces.Given as goal

-- Each read so far returned bytes, and the lines that end in them were answered.
abbrev pub invariant-reading : goal.invariant-reading
invariant-reading g l = record {
  seen : List ℕ;
  has : HasRead l.intake.reads l.intake.reads 0 seen (g.R.Source.remaining l.initial.reader) (g.R.Source.remaining l.reader) (g.R.Source.reads l.initial.reader) (g.R.Source.reads l.reader);
  taken : length seen ≡ l.intake.bytes;
  fed : Fed [] seen l.run.lines.line.items l.initial.run.responder.powered.exec l.run.responder.powered.exec (held (g.W.Sink.written l.initial.writer) []) (held (g.W.Sink.written l.writer) []);
  none : l.run.responder.output.items ≡ [];
  fresh : l.run.responder.gathered ≡ nothing;
}

abbrev pub decreases-reading : goal.decreases-reading
decreases-reading g l = 1048576 - l.intake.reads
