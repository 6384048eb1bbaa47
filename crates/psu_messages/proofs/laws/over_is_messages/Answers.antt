use Rattle.psu_messages.proofs.Messaging.{all_messages}
use Rattle.psu_messages.proofs.laws.over_is_messages.Goals as goal

pub returns : goal.returns
returns c = λ source effects d m over. all_messages c.one_list_of_units.ensures c.parts_are_the_answers.ensures source effects d m over
