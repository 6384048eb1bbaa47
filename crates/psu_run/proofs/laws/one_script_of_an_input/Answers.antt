use Rattle.psu_run.proofs.Common.{at_start, messages}
use Rattle.psu_run.proofs.Readings.{Ones}
use Rattle.psu_run.proofs.Scripts.{one_script}
use Rattle.psu_run.proofs.laws.one_script_of_an_input.Goals as goal

pub returns : goal.returns
returns c = λ contents limit input text other a b.
    let ones : Ones = record { units = c.one_list_of_units.ensures; reading = c.one_reading_of_a_unit.ensures; header = c.one_header_of_a_text.ensures; syntax = c.one_syntax_of_a_unit.ensures } in
    one_script ones c.one_expansion_of_a_body.ensures (messages input) (at_start limit contents) text other a b
