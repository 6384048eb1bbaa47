use Rattle.psu_instrument.proofs.Speaking.{each_answer_is_quiet}
use Rattle.psu_instrument.proofs.laws.no_answer_raises_a_bit.Goals as goal

pub returns : goal.returns
returns c s command text new is = (each_answer_is_quiet s command text new is).1
