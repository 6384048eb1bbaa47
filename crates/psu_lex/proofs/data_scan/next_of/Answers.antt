use Rattle.psu_lex.proofs.DataLists.{next_holds, nothing_next}
use Rattle.psu_lex.proofs.Expansions.{no_bytes}
use Rattle.psu_lex.proofs.data_scan.next_of.Goals as goal

pub returns-then-is_empty : goal.returns-then-is_empty
returns-then-is_empty c = λ others. nothing_next c.args.tail.now others (no_bytes c.args.tail.now c.is_empty.result c.is_empty.ensures c.if-is_empty.true)

pub returns : goal.returns
returns c = λ others. next_holds c.args.tail.now c.after.result.now c.later_datum.result c.is_empty.result others c.is_empty.ensures c.if-is_empty.false c.after.ensures c.later_datum.ensures.some c.later_datum.ensures.none
