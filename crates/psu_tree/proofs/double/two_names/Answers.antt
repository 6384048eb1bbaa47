use Rattle.std.proofs.Common.{◌≡◌, refl, rules, Err}
use Rattle.psu_lex.specs.Syntax.{datum_of}
use Rattle.psu_tree.specs.Parameters.{TakesString, named}
use Rattle.psu_tree.proofs.SomeTaken.{failed, first_failed, some_string}
use Rattle.psu_tree.proofs.double.two_names.Goals as goal

pub returns-in_err-before : goal.returns-in_err-before
returns-in_err-before c = λ list h.
    let two = c.in_ok-first.ensures list h in
    let taken = c.in_err-before.ensures two.1 in
    let fault : c.from_residual-in_err-before.result ≡ Err c.in_err-before.field-0.0 = search rules in
    first_failed TakesString named TakesString named (datum_of c.in_ok-first.first) (datum_of c.in_ok-first.second) list c.from_residual-in_err-before.result taken.0 c.in_err-before.field-0.0
    two.0 fault taken.1 (failed named taken.0 c.in_err-before.field-0.0 (λ a. (_, refl)) taken.2) (some_string (datum_of c.in_ok-first.second) two.2)
