use Rattle.psu_run.proofs.Readings.{Ones}
use Rattle.psu_run.proofs.MessagesAlone.{script_is_alone}
use Rattle.psu_run.proofs.laws.script_is_the_only_text.Goals as goal

pub returns : goal.returns
returns g c =
    let ones : Ones = record { units = c.one_list_of_units.ensures; reading = c.one_reading_of_a_unit.ensures; header = c.one_header_of_a_text.ensures; syntax = c.one_syntax_of_a_unit.ensures } in
    script_is_alone ones c.every_list_has_units.ensures c.over_is_messages.ensures g.D.Disk.honest
