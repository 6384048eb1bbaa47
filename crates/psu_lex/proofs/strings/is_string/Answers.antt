use Rattle.std.proofs.Common.{arith}
use Rattle.psu_lex.proofs.PieceScans.{shorter, whole}
use Rattle.psu_lex.proofs.strings.is_string.Goals as goal

pub returns-in-Some-clause-long : goal.returns-in-Some-clause-long
returns-in-Some-clause-long c = λ _. omega (arith, shorter c.args.text.now _ (whole c.args.text.now _ c.in-Some.ensures.some))
