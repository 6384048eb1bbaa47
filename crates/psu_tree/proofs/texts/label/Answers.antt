use Rattle.std.proofs.Common.{refl, ap, ◌∙◌, List, ℕ, Ok, Err, Option, Result}
use Rattle.psu_lex.specs.declared.data.DatumClass.{DatumClass}
use Rattle.psu_lex.specs.declared.data.DatumClass.TheVariants.{Numeric, Character, Block}
use Rattle.psu_lex.specs.declared.scpi_error.ScpiError.{ScpiError}
use Rattle.psu_lex.specs.declared.scpi_error.ScpiError.TheVariants.{DataTypeError}
use Rattle.psu_tree.specs.Parameters.{StringOf}
use Rattle.psu_tree.proofs.Taking.{of_three, label_taken}
use Rattle.psu_tree.proofs.texts.label.Goals as goal

pub returns-in-Numeric : goal.returns-in-Numeric
returns-in-Numeric c = λ is.
    let text = c.args.datum.now.text.now in
    (Err DataTypeError, of_three (λ (k : DatumClass). StringOf k text (Err DataTypeError)) c.args.datum.now.class Numeric Character Block c.in-Numeric.is refl refl refl, refl)

pub returns-in-String : goal.returns-in-String
returns-in-String c = λ (more, is).
    let k = label_taken c.args.datum.now.class c.args.datum.now.text.now more c.quoted.result.now c.in-String.is c.quoted.ensures is in
    let made = λ (z : Option (List ℕ)). let r : Result (Option (List ℕ)) ScpiError = Ok z in r in
    (k.0, k.1, ap made c.label_of.ensures ∙ k.2)
