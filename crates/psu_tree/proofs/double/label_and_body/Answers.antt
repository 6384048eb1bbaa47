use Rattle.std.proofs.Common.{◌≡◌, List, ℕ, refl, rules, Ok, Err, Result}
use Rattle.psu_lex.specs.Syntax.{datum_of}
use Rattle.psu_lex.specs.declared.scpi_error.ScpiError.{ScpiError}
use Rattle.psu_tree.specs.Parameters.{TakesBlock, TakesString, labeled}
use Rattle.psu_tree.proofs.SomeTaken.{failed, first_failed, some_block}
use Rattle.psu_tree.proofs.double.label_and_body.Goals as goal

pub returns-in_err-label : goal.returns-in_err-label
returns-in_err-label c = λ list h.
    let two = c.in_ok-first.ensures list h in
    let taken = c.in_err-label.ensures two.1 in
    let fault : c.from_residual-in_err-label.result ≡ Err c.in_err-label.field-0.0 = search rules in
    first_failed TakesString labeled TakesBlock (λ (body : List ℕ). let r : Result (List ℕ) ScpiError = Ok body in r) (datum_of c.in_ok-first.first) (datum_of c.in_ok-first.second) list c.from_residual-in_err-label.result taken.0 c.in_err-label.field-0.0
    two.0 fault taken.1 (failed labeled taken.0 c.in_err-label.field-0.0 (λ a. (_, refl)) taken.2) (some_block (datum_of c.in_ok-first.second) two.2)
