use Rattle.std.proofs.Common.{sym, ap, ◌∙◌, arith}
use Rattle.std.proofs.lemmas.Fmt.{decimal_digit}
use Rattle.psu_exec.specs.Device.{Answer}
use Rattle.psu_exec.proofs.rules.completed.Goals as goal

pub returns-in-Query : goal.returns-in-Query
returns-in-Query g c = rw c.in-Query.is (ap Answer (c.few.ensures ∙ sym (decimal_digit 1 (omega arith))))
