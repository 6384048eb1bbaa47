use Rattle.std.proofs.Common.{sym, subst}
use Rattle.psu_tree.specs.Parameters.{SwitchOf}
use Rattle.psu_tree.proofs.Taking.{switch_taken}
use Rattle.psu_tree.proofs.parameters.switch_of.Goals as goal

pub returns-in-Numeric : goal.returns-in-Numeric
returns-in-Numeric c = λ (more, is).
    subst (SwitchOf c.args.datum.now.class c.args.datum.now.text.now) (sym c.chosen.ensures) (switch_taken c.args.datum.now.class c.args.datum.now.text.now more c.number.result c.in-Numeric.is c.number.ensures is)
