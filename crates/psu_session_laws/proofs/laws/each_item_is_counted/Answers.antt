use Rattle.psu_session_laws.proofs.Holding.{releases_counted, transmissions_counted}
use Rattle.psu_session_laws.proofs.laws.each_item_is_counted.Goals as goal

pub returns-clause-transmissions : goal.returns-clause-transmissions
returns-clause-transmissions c = transmissions_counted

pub returns-clause-releases : goal.returns-clause-releases
returns-clause-releases c = releases_counted
