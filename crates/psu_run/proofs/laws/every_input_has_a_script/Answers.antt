use Rattle.psu_run.proofs.Common.{at_start, messages}
use Rattle.psu_run.proofs.Scripts.{some_script}
use Rattle.psu_run.proofs.laws.every_input_has_a_script.Goals as goal

pub returns : goal.returns
returns c = λ contents limit input.
    some_script (record { units = c.every_list_has_units.ensures; reading = c.every_unit_reads.ensures; expansion = c.every_body_has_an_expansion.ensures }) (messages input) (at_start limit contents)
