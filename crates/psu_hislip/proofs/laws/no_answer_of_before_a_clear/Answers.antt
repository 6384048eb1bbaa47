use Rattle.std.proofs.Common.{arith}
use Rattle.psu_hislip.specs.Runs.{started}
use Rattle.psu_hislip.proofs.Origins.{none_current}
use Rattle.psu_hislip.proofs.laws.no_answer_of_before_a_clear.Goals as goal

pub returns : goal.returns
returns c = λ session before later some few k d h current.
    none_current (started session) before later (omega arith) current.0 some few k d h current.1
