use Rattle.std.proofs.Common.{◌≡◌, refl, rules, Err}
use Rattle.psu_lex.specs.Syntax.{datum_of}
use Rattle.psu_tree.specs.Parameters.{TakesString, labeled, named}
use Rattle.psu_tree.proofs.SomeTaken.{failed, first_failed, some_string}
use Rattle.psu_tree.proofs.double.label_and_name.Goals as goal

pub returns-in_err-label : goal.returns-in_err-label
returns-in_err-label c = λ list h.
    let two = c.in_ok-first.ensures list h in
    let taken = c.in_err-label.ensures two.1 in
    let fault : c.from_residual-in_err-label.result ≡ Err c.in_err-label.field-0.0 = search rules in
    first_failed TakesString labeled TakesString named (datum_of c.in_ok-first.first) (datum_of c.in_ok-first.second) list c.from_residual-in_err-label.result taken.0 c.in_err-label.field-0.0
    two.0 fault taken.1 (failed labeled taken.0 c.in_err-label.field-0.0 (λ a. (_, refl)) taken.2) (some_string (datum_of c.in_ok-first.second) two.2)
