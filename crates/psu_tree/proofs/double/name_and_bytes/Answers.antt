use Rattle.std.proofs.Common.{◌≡◌, refl, rules, Err}
use Rattle.psu_lex.specs.Syntax.{datum_of}
use Rattle.psu_tree.specs.Parameters.{TakesBlock, TakesString, at_most, named}
use Rattle.psu_tree.proofs.SomeTaken.{failed, first_failed, some_block}
use Rattle.psu_tree.proofs.double.name_and_bytes.Goals as goal

pub returns-in_err-name : goal.returns-in_err-name
returns-in_err-name c = λ list h.
    let two = c.in_ok-first.ensures list h in
    let taken = c.in_err-name.ensures two.1 in
    let fault : c.from_residual-in_err-name.result ≡ Err c.in_err-name.field-0.0 = search rules in
    first_failed TakesString named TakesBlock (at_most c.args.most) (datum_of c.in_ok-first.first) (datum_of c.in_ok-first.second) list c.from_residual-in_err-name.result taken.0 c.in_err-name.field-0.0
    two.0 fault taken.1 (failed named taken.0 c.in_err-name.field-0.0 (λ a. (_, refl)) taken.2) (some_block (datum_of c.in_ok-first.second) two.2)
