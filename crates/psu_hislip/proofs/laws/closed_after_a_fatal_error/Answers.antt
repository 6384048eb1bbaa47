use Rattle.psu_hislip.specs.Runs.{outcome}
use Rattle.psu_hislip.proofs.Cases.{cases}
use Rattle.psu_hislip.proofs.Runs.{closed, ends, failed_before}
use Rattle.psu_hislip.proofs.laws.closed_after_a_fatal_error.Goals as goal

pub returns-clause-gives : goal.returns-clause-gives
returns-clause-gives c = λ core t e. let end = ends core t e (cases core t.side t.message) in (end.0, end.1)

pub returns-clause-then : goal.returns-clause-then
returns-clause-then c = λ core t later e. closed (outcome core t).core later (ends core t e (cases core t.side t.message)).2

pub returns-clause-silent : goal.returns-clause-silent
returns-clause-silent c = λ core t later o e current.
    absurd (cc (failed_before (outcome core t).core later (ends core t e (cases core t.side t.message)).2, current.0))
