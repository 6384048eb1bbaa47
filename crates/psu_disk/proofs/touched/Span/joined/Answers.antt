use Rattle.psu_disk.specs.declared.touched.Span.{Span}
use Rattle.psu_disk.proofs.Covered.{joined_within, lower_end}
use Rattle.psu_disk.proofs.touched.Span.joined.Goals as goal

pub returns-clause-within : goal.returns-clause-within
returns-clause-within c = λ size fits own k is.
    let hull : Span = record { low = c.min.result; high = c.max.result } in
    joined_within c.args.self hull c.args.high size c.if-self.false fits (lower_end c.args.self.high c.args.high hull.high size fits c.max.ensures) own k is
