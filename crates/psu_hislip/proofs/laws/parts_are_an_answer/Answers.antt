use Rattle.psu_hislip.proofs.Cuts.{parts_are_an_answer}
use Rattle.psu_hislip.proofs.laws.parts_are_an_answer.Goals as goal

pub returns : goal.returns
returns c = λ greatest size id parts rest end a some small e. parts_are_an_answer greatest size id parts rest end a some small e
