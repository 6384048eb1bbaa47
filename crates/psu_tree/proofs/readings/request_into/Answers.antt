use Rattle.std.proofs.Common.{Result, subst}
use Rattle.psu_lex.specs.Message.{part}
use Rattle.psu_lex.specs.Shown.{Shows}
use Rattle.psu_lex.specs.declared.scpi_error.ScpiError.{ScpiError}
use Rattle.psu_lex.specs.declared.unit.Syntax as rust
use Rattle.psu_tree.proofs.UnitReadings.{called}
use Rattle.psu_tree.proofs.readings.request_into.Goals as goal

pub returns-clause-call : goal.returns-clause-call
returns-clause-call c =
    let s = c.syntax.ensures in
    called (part c.args.unit.now) c.in-Ok.parts s.0 c.put_call.new.call s.1 (subst (λ (z : Result rust.Syntax ScpiError). Shows z s.0) c.in-Ok.is s.2) c.put_call.ensures
