use Rattle.std.proofs.Common.{sym, ◌∙◌, refl}
use Rattle.psu_lex.proofs.Expansions.{keeps_byte, keeps_piece, keeps_fault}
use Rattle.psu_lex.proofs.macros.verbatim.Goals as goal

pub returns-then-not-opens-clause-kept : goal.returns-then-not-opens-clause-kept
returns-then-not-opens-clause-kept c = keeps_byte c.args.rest.now c.requires.some (sym c.opens.ensures ∙ c.if-not-opens.true) c.requires.other

pub returns-in-Some-clause-kept : goal.returns-in-Some-clause-kept
returns-in-Some-clause-kept c = keeps_piece c.args.rest.now c.in-Some.length c.in-Some.ensures.some

pub returns-in-None-clause-kept : goal.returns-in-None-clause-kept
returns-in-None-clause-kept c = keeps_fault c.args.rest.now _ refl (sym c.opens.ensures ∙ c.if-not-opens.false) c.in-None.ensures.none
