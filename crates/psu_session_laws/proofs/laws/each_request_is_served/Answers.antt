use Rattle.psu_session_laws.proofs.Requests.{requests_are_served}
use Rattle.psu_session_laws.proofs.laws.each_request_is_served.Goals as goal

pub returns : goal.returns
returns c = requests_are_served
