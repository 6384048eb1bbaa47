use Rattle.psu_hislip.specs.Runs.{started}
use Rattle.psu_hislip.proofs.Stretches.{session_transmissions, fresh_start}
use Rattle.psu_hislip.proofs.laws.each_transmission_once_between_clears.Goals as goal

pub returns : goal.returns
returns c = λ session stretches last whole rest a none e good.
    session_transmissions (started session) stretches last whole rest (fresh_start session) a none e good
