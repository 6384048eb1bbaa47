use Rattle.psu_session_laws.proofs.Releases as releases
use Rattle.psu_session_laws.proofs.laws.each_release_is_done.Goals as goal

pub returns-clause-done : goal.returns-clause-done
returns-clause-done c = releases.each_release_is_done

pub returns-clause-in_place : goal.returns-clause-in_place
returns-clause-in_place c = releases.each_release_is_in_place
