use Rattle.std.proofs.Common.{[], ◌++◌, length-append, map, refl, subst, arith}
use Rattle.std.proofs.lemmas.List.{append-nil}
use Rattle.psu_lex.specs.MacroScan.{Spells}
use Rattle.psu_lex.proofs.Expansions.{spells_end, put_on}
use Rattle.psu_lex.proofs.macros.length_of.Goals as goal

pub loop-rest-init : goal.loop-rest-init
loop-rest-init c = record { written = []; held = omega arith; so_far = λ most text s. (most, s) }

pub loop-rest-preserved : goal.loop-rest-preserved
loop-rest-preserved c =
    let old = c.loop-rest.invariant.written in
    let piece = c.piece_at-used.result.0.now in
    record {
      written = old ++ piece;
      held = omega (arith, c.longer-length.ensures, c.loop-rest.invariant.held, length-append old piece);
      so_far = put_on (map (λ arg. arg.now) c.args.args.now) c.args.body.now c.loop-rest.rest.now c.after-rest.result.now old (old ++ piece) piece c.piece_at-used.result.1
          c.loop-rest.invariant.so_far refl c.piece_at-used.ensures.puts c.after-rest.ensures;
    }

pub returns : goal.returns
returns c =
    let args = map (λ arg. arg.now) c.args.args.now in
    let old = c.loop-rest.invariant.written in
    let all = c.loop-rest.invariant.so_far 0 [] (spells_end args c.loop-rest.rest.now c.is_empty.result c.is_empty.ensures c.loop-rest-test.false) in
    (all.0, old, subst (Spells args c.args.body.now all.0) (append-nil old) all.1, c.loop-rest.invariant.held)
