use Rattle.std.proofs.Common.{sym, ◌∙◌, ap, ◌+◌, true, false, drop, Some, arith}
use Rattle.std.proofs.lemmas.Grind.{common_steps}
use Rattle.psu_lex.specs.Scan.{after_string}
use Rattle.psu_lex.proofs.Searches.{drop-add, string_none, string_broken, quote_at, string_ends, string_continues, suffix}
use Rattle.psu_lex.proofs.pieces.string_end.Goals as goal

pub returns-then-rest-at-eq10-clause-none : goal.returns-then-rest-at-eq10-clause-none
returns-then-rest-at-eq10-clause-none c = sym c.loop-at.invariant.same ∙ string_broken c.args.quote c.loop-at.rest.now c.in-Some.at c.requires c.in-Some.ensures c.if-rest-at-eq10.true

pub returns-clause-none : goal.returns-clause-none
returns-clause-none c = sym c.loop-at.invariant.same ∙ string_none c.args.quote c.loop-at.rest.now c.in_default.ensures

pub returns-then-not-begins-clause-some : goal.returns-then-not-begins-clause-some
returns-then-not-begins-clause-some c =
    let next = c.after-next.result.now in
    sym c.loop-at.invariant.same ∙ quote_at c.args.quote c.loop-at.rest.now c.in-Some.at c.in-Some.ensures c.if-rest-at-eq10.false ∙ ap (after_string true c.args.quote) (sym c.after-next.ensures)
    ∙ string_ends c.args.quote next (sym c.begins.ensures ∙ c.if-not-begins.true)
    ∙ ap Some (sym (suffix c.args.text.now next (c.loop-at.invariant.n + (c.in-Some.at + 1)) (grind (arith, common_steps))))

pub loop-at-preserved : goal.loop-at-preserved
loop-at-preserved c =
    let n = c.loop-at.invariant.n in
    let at = c.in-Some.at in
    record {
      n = n + (at + 1 + 1);
      rest = c.after-rest.ensures ∙ ap (drop 1) (c.after-next.ensures ∙ ap (drop (at + 1)) c.loop-at.invariant.rest)
          ∙ sym (drop-add (at + 1) 1 (drop n c.args.text.now)) ∙ sym (drop-add n (at + 1 + 1) c.args.text.now);
      same = ap (after_string false c.args.quote) c.after-rest.ensures ∙ sym (string_continues c.args.quote c.after-next.result.now (sym c.begins.ensures ∙ c.if-not-begins.false))
          ∙ ap (after_string true c.args.quote) c.after-next.ensures ∙ sym (quote_at c.args.quote c.loop-at.rest.now at c.in-Some.ensures c.if-rest-at-eq10.false) ∙ c.loop-at.invariant.same;
    }
