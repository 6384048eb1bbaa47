use Rattle.std.proofs.Common.{◌∷◌, []}
use Rattle.psu_lex.specs.Syntax.{datum_of}
use Rattle.psu_lex.proofs.Expansions.{no_bytes}
use Rattle.psu_lex.proofs.DataLists.{tail_parted, comma, lists_in, no_tail, tail_rest}
use Rattle.psu_lex.proofs.data_scan.is_list_tail.Goals as goal

pub returns-in_default-clause-no : goal.returns-in_default-clause-no
returns-in_default-clause-no c = λ _ others l.
    let cut = comma c.next.rest.now c.after.result.now c.is_empty.result c.next.invariant.parted c.is_empty.ensures c.next-test.true c.after.ensures in
    let rest = c.next.invariant.down others l in
    no_tail c.next.rest.now c.after.result.now rest.0 cut c.in_default.ensures.none rest.1

pub returns-clause-yes : goal.returns-clause-yes
returns-clause-yes c = λ _. c.next.invariant.up [] (no_bytes c.next.rest.now c.is_empty.result c.is_empty.ensures c.next-test.false)

pub next-preserved : goal.next-preserved
next-preserved c =
    let text = c.after.result.now in
    let tail = c.in-Some.found.tail.now in
    let datum = datum_of c.in-Some.found.datum in
    let cut = comma c.next.rest.now text c.is_empty.result c.next.invariant.parted c.is_empty.ensures c.next-test.true c.after.ensures in
    record {
      up = λ others l. c.next.invariant.up (datum ∷ others) (text, cut, lists_in text tail datum others c.in-Some.ensures.some l);
      down = λ all l.
          let r = c.next.invariant.down all l in
          let k = tail_rest c.next.rest.now text tail datum r.0 cut c.in-Some.ensures.some r.1 in
          (k.others, k.listed);
      parted = tail_parted text tail datum c.in-Some.ensures.some;
    }
