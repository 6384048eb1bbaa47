use Rattle.std.proofs.Common.{ℕ, List, [], ◌++◌, ◌∙◌, map, sym, subst}
use Rattle.std.proofs.lemmas.List.{append-nil}
use Rattle.psu_lex.specs.MacroScan.{Spells}
use Rattle.psu_lex.proofs.Expansions.{spells_end, put_on}
use Rattle.psu_lex.proofs.macros.filled.Goals as goal

pub loop-rest-init : goal.loop-rest-init
loop-rest-init g c = λ most text s.
    (most, subst (λ (z : List ℕ). Spells (map (λ arg. arg.now) c.args.args.now) c.args.body.now most (z ++ text)) (sym c.in_ok-list.ensures.items) s)

pub loop-rest-preserved : goal.loop-rest-preserved
loop-rest-preserved g c =
    put_on (map (λ arg. arg.now) c.args.args.now) c.args.body.now c.loop-rest.rest.now c.after-rest.result.now c.loop-rest.list.items c.extend_from_slice.new.self.items c.piece_at-used.result.0.now c.piece_at-used.result.1
    c.loop-rest.invariant c.in_ok-extend_from_slice.ensures.items c.piece_at-used.ensures.puts c.after-rest.ensures

pub returns : goal.returns
returns g c =
    let args = map (λ arg. arg.now) c.args.args.now in
    let all = c.loop-rest.invariant 0 [] (spells_end args c.loop-rest.rest.now c.is_empty.result c.is_empty.ensures c.loop-rest-test.false) in
    (all.0, subst (Spells args c.args.body.now all.0) (append-nil c.loop-rest.list.items ∙ sym c.of_list.ensures) all.1)
