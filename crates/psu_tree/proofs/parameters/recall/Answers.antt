use Rattle.std.proofs.Common.{refl, Ok, Err}
use Rattle.psu_lex.specs.declared.data.DatumClass.{DatumClass}
use Rattle.psu_lex.specs.declared.data.DatumClass.TheVariants.{Numeric, String, Block}
use Rattle.psu_lex.specs.declared.scpi_error.ScpiError.TheVariants.{DataTypeError}
use Rattle.psu_tree.specs.Parameters.{WordOf}
use Rattle.psu_tree.proofs.Taking.{of_three, word_taken}
use Rattle.psu_tree.proofs.parameters.recall.Goals as goal

pub returns-in-Numeric : goal.returns-in-Numeric
returns-in-Numeric c =
    let text = c.args.datum.now.text.now in
    (Err DataTypeError, of_three (λ (k : DatumClass). WordOf k text (Err DataTypeError)) c.args.datum.now.class Numeric String Block c.in-Numeric.is refl refl refl, refl)

pub returns-in-Character : goal.returns-in-Character
returns-in-Character c =
    let text = c.args.datum.now.text.now in
    (Ok text, word_taken c.args.datum.now.class text c.in-Character.is, c.recalled.ensures)
