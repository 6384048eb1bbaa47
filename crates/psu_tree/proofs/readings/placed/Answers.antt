use Rattle.std.proofs.Common.{ℕ, List, Bor, ap, ◌∙◌}
use Rattle.std.specs.Prelude.{Option, Result, map}
use Rattle.psu_lex.specs.declared.scpi_error.ScpiError.{ScpiError}
use Rattle.psu_tree.specs.Headers.{form_for}
use Rattle.psu_tree.specs.Reading.{placed}
use Rattle.psu_tree.specs.Table.{table}
use Rattle.psu_settings.specs.declared.output.Output.{Output}
use Rattle.psu_tree.specs.declared.form.Form.{Form}
use Rattle.psu_tree.proofs.readings.placed.Goals as goal

pub returns : goal.returns
returns c =
    c.at_output.ensures
    ∙ ap (λ (form : Option Form). placed form c.header_output.result) c.form_of.ensures
    ∙ ap (λ (output : Result Output ScpiError). placed (form_for table (map (λ (word : Bor (List ℕ)). word.now) c.args.words.now) c.args.asks) output) c.header_output.ensures
