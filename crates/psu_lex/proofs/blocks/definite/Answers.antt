use Rattle.std.proofs.Common.{rules, sym, subst, ◌≡◌, List, ℕ}
use Rattle.psu_lex.specs.Data.{IsBlockOf, definite_text}
use Rattle.psu_lex.proofs.Rounding.{definite_is_block}
use Rattle.psu_lex.proofs.blocks.definite.Goals as goal

pub returns-clause-read : goal.returns-clause-read
returns-clause-read g c =
    let exact : c.put-3.new.self ≡ definite_text c.args.bytes.now = search rules in
    subst (λ (z : List ℕ). IsBlockOf z c.args.bytes.now) (sym exact) (definite_is_block c.args.bytes.now c.requires)
