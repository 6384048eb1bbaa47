use Rattle.psu_lex.proofs.UnitScans.{last_are}
use Rattle.psu_lex.proofs.units.Units.of_last.Goals as goal

pub returns-clause-text : goal.returns-clause-text
returns-clause-text c = λ rest is n. last_are c.args.bytes.now c.after.result.now rest c.args.left _ c.after.ensures c.saturating_sub.ensures is n
