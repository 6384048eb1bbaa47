use Rattle.std.proofs.Common.{◌≡◌, ◌<◌, ◌∙◌, sym, arith, true, false, length, slice_index}
use Rattle.std.proofs.lemmas.Bool.Decides.{nat_tests}
use Rattle.psu_lex.specs.SyntaxScan.{is_part}
use Rattle.psu_lex.proofs.HeaderEnds.{reaches_part, reaches_joint}
use Rattle.psu_lex.proofs.headers.path_end.Goals as goal

pub nodes-preserved : goal.nodes-preserved
nodes-preserved c =
    let text = c.args.text.now in
    let at = c.nodes.at in
    let end = c.name_end-end.result in
    let below : at < length text = omega (arith, c.nodes.invariant.within, c.if-at-text.false) in
    let letter : is_part false (slice_index text at) ≡ true = grind (arith, nat_tests, c.is_ascii_alphabetic.ensures.value, c.if-not-is_ascii_alphabetic.false) in
    let ahead : end < length text = omega (arith, c.name_end-end.ensures.high, c.if-end-text.false) in
    record {
      within = omega (arith, ahead);
      reaches = reaches_joint c.args.several true text end ahead (sym c.joins.ensures ∙ c.if-not-joins.false)
          (c.name_end-end.ensures.reaches c.args.several (reaches_part c.args.several false text at below letter c.nodes.invariant.reaches));
    }
