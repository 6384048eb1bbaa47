use Rattle.psu_messages.proofs.Turning.{all_done}
use Rattle.psu_messages.proofs.laws.over_is_done.Goals as goal

pub returns : goal.returns
returns c = λ source effects d m over. all_done c.one_list_of_units.ensures source effects d m over
