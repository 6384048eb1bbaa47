use Rattle.psu_exec.specs.Shown.{outcome_of}
use Rattle.psu_exec.proofs.Answered.{settle_told}
use Rattle.psu_exec.proofs.exec.ExecOf.settle.Goals as goal

pub returns-clause-text : goal.returns-clause-text
returns-clause-text g c = settle_told c.args.self.now.device c.args.session (outcome_of c.end_wait-outcome.result) c.end_wait-outcome.ensures.value
