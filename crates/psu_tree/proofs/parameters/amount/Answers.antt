use Rattle.std.proofs.Common.{ℕ, sym, subst}
use Rattle.psu_tree.specs.Parameters.{AmountOf}
use Rattle.psu_tree.proofs.Taking.{amount_taken}
use Rattle.psu_tree.proofs.parameters.amount.Goals as goal

pub returns-in-Numeric : goal.returns-in-Numeric
returns-in-Numeric c = λ (more, is).
    let class = c.args.datum.now.class in
    let text = c.args.datum.now.text.now in
    let taken = amount_taken c.unit_of.result class text more c.amount_of.result c.in-Numeric.is c.amount_of.ensures is in
    subst (λ (unit : ℕ). AmountOf unit class text c.chosen.result) c.unit_of.ensures (subst (AmountOf c.unit_of.result class text) (sym c.chosen.ensures) taken)
