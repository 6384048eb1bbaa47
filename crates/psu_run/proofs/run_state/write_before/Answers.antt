use Rattle.psu_run.proofs.Common.{arith, refl}
use Rattle.psu_run.proofs.Reading.{none_before, short_before, written_before}
use Rattle.psu_run.proofs.run_state.write_before.Goals as goal

pub returns-then-is_write-clause-ends : goal.returns-then-is_write-clause-ends
returns-then-is_write-clause-ends g c = λ old due before ended. none_before old c.args.fault due before _ _ ended (c.is_write.ensures.0 c.if-is_write.true) refl

pub returns-in-Ok-clause-ends : goal.returns-in-Ok-clause-ends
returns-in-Ok-clause-ends g c = λ old due before ended. written_before old c.args.fault due before _ _ ended (λ e. let is = c.is_write.ensures.1 e in grind arith) (rw (← c.text.ensures) c.in-Ok.ensures.whole)

pub returns-in-Err-clause-ends : goal.returns-in-Err-clause-ends
returns-in-Err-clause-ends g c = λ old due before ended. rw c.in-Err.ensures.own (short_before old c.args.fault due before _ _ ended (λ e. let is = c.is_write.ensures.1 e in grind arith) (rw (← c.text.ensures) c.in-Err.ensures.short))
