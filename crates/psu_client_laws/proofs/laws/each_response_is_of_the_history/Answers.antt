use Rattle.psu_client_laws.proofs.Responses.{each_response, one_response}
use Rattle.psu_client_laws.proofs.laws.each_response_is_of_the_history.Goals as goal

pub returns-clause-each : goal.returns-clause-each
returns-clause-each g c = let laws = c.from_bytes_to_bytes.ensures in each_response g.D.Disk.honest c.histories_are_exchanges.ensures laws.messages laws.transmissions laws.answers laws.nothing_else

pub returns-clause-one : goal.returns-clause-one
returns-clause-one g c = one_response
