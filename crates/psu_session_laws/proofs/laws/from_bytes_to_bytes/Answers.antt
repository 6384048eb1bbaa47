use Rattle.std.proofs.Common.{List, sym, ap, ◌∙◌}
use Rattle.std.specs.Prelude.{flat_map, map}
use Rattle.psu_hislip.specs.Runs.{Arrival, actions_of, core_after, started}
use Rattle.psu_hislip.specs.Transmitted.{action_text, transmissions}
use Rattle.psu_session_laws.proofs.Answering.{each_is_answered, nothing_else}
use Rattle.psu_session_laws.proofs.Ordering.{none_of_before, text_of, texts_executed, the_streams}
use Rattle.psu_session_laws.proofs.laws.from_bytes_to_bytes.Goals as goal

pub returns-clause-messages : goal.returns-clause-messages
returns-clause-messages c = the_streams c.one_division.ensures

pub returns-clause-transmissions : goal.returns-clause-transmissions
returns-clause-transmissions c = λ session sync async history turns x stretches last whole rest is a none e good. (
  flat_map text_of x.waiting,
  sym (c.each_transmission_once_between_clears.ensures session stretches last whole rest a none e (ap (λ (z : List Arrival). (core_after (started session) z).failed) (sym is) ∙ good))
      ∙ ap (λ (z : List Arrival). map action_text (transmissions (actions_of (started session) z))) (sym is) ∙ texts_executed session sync async history turns x,
)

pub returns-clause-answers : goal.returns-clause-answers
returns-clause-answers c = each_is_answered c.parts_are_an_answer.ensures c.over_is_messages.ensures c.so_far_is_messages.ensures

pub returns-clause-cleared : goal.returns-clause-cleared
returns-clause-cleared c = none_of_before c.no_answer_of_before_a_clear.ensures

pub returns-clause-nothing_else : goal.returns-clause-nothing_else
returns-clause-nothing_else c = nothing_else
