use Rattle.psu_messages.proofs.Messaging.{some_messages}
use Rattle.psu_messages.proofs.laws.so_far_is_messages.Goals as goal

pub returns : goal.returns
returns c = λ source effects d m. some_messages c.one_list_of_units.ensures c.parts_are_the_answers.ensures source effects d m
