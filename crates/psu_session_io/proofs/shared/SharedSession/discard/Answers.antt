use Rattle.psu_session_io.proofs.Discarding.{both_discarded, then_discards}
use Rattle.psu_session_io.proofs.shared.SharedSession.discard.Goals as goal

pub returns-clause-step : goal.returns-clause-step
returns-clause-step c =
    then_discards c.args.self.now c.drop_output.new.self c.drop_output-2.new.self
    (then_discards c.args.self.now c.end_last_write.new.self c.drop_output.new.self c.end_last_write.ensures.step c.drop_output.ensures.step)
    (then_discards c.drop_output.new.self c.end_last_write-2.new.self c.drop_output-2.new.self c.end_last_write-2.ensures.step c.drop_output-2.ensures.step)

pub returns-clause-none : goal.returns-clause-none
returns-clause-none c ending =
    both_discarded c.args.self.now c.end_last_write.new.self c.drop_output.new.self c.end_last_write-2.new.self c.drop_output-2.new.self ending
    c.end_last_write.ensures.ended c.end_last_write.ensures.phase c.drop_output.ensures.dropped c.drop_output.ensures.step
    c.end_last_write-2.ensures.ended c.end_last_write-2.ensures.phase c.end_last_write-2.ensures.step c.drop_output-2.ensures.dropped c.drop_output-2.ensures.step
