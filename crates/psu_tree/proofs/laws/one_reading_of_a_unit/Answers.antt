use Rattle.psu_tree.proofs.OneReading.{one_reading}
use Rattle.psu_tree.proofs.laws.one_reading_of_a_unit.Goals as goal

pub returns : goal.returns
returns c = one_reading (record {
  number = c.one_number_of_a_text.ensures;
  string = c.one_content_of_a_string.ensures;
  block = c.one_content_of_a_datum.ensures;
  header = c.one_header_of_a_text.ensures;
  syntax = c.one_syntax_of_a_unit.ensures;
})
