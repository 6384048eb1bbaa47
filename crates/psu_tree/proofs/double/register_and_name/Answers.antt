use Rattle.std.proofs.Common.{◌≡◌, refl, rules, Err}
use Rattle.psu_lex.specs.Syntax.{datum_of}
use Rattle.psu_tree.specs.Parameters.{TakesString, TakesWhole, counted, named}
use Rattle.psu_tree.proofs.SomeTaken.{first_failed, some_string}
use Rattle.psu_tree.proofs.double.register_and_name.Goals as goal

pub returns-in_err-register : goal.returns-in_err-register
returns-in_err-register c = λ list h.
    let two = c.in_ok-first.ensures list h in
    let fault : c.from_residual-in_err-register.result ≡ Err c.in_err-register.field-0.0 = search rules in
    first_failed TakesWhole (counted 0 99) TakesString named (datum_of c.in_ok-first.first) (datum_of c.in_ok-first.second) list c.from_residual-in_err-register.result (Err c.in_err-register.field-0.0)
    c.in_err-register.field-0.0 two.0 fault (c.in_err-register.ensures two.1) refl (some_string (datum_of c.in_ok-first.second) two.2)
