use Rattle.std.proofs.Common.{map, sym, ◌∙◌}
use Rattle.psu_lex.proofs.Expansions.{puts_placeholder, puts_kept}
use Rattle.psu_lex.proofs.macros.piece_at.Goals as goal

pub returns-then-is_placeholder-clause-puts : goal.returns-then-is_placeholder-clause-puts
returns-then-is_placeholder-clause-puts c =
    puts_placeholder (map (λ arg. arg.now) c.args.args.now) c.args.rest.now c.argument.result.now (sym c.is_placeholder.ensures ∙ c.if-is_placeholder.true) c.argument.ensures

pub returns-clause-puts : goal.returns-clause-puts
returns-clause-puts c =
    puts_kept (map (λ arg. arg.now) c.args.args.now) c.args.rest.now c.front.result.now c.verbatim-kept.result c.verbatim-kept.ensures.kept c.front.ensures
