use Rattle.psu_session_laws.proofs.Exchanging.{are_exchanges}
use Rattle.psu_session_laws.proofs.laws.histories_are_exchanges.Goals as goal

pub returns : goal.returns
returns c = are_exchanges
