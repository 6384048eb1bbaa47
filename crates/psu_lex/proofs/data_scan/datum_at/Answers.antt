use Rattle.std.proofs.Common.{ap, length, arith, length-drop}
use Rattle.psu_lex.proofs.DataLists.{left_shorter}
use Rattle.psu_lex.proofs.data_scan.datum_at.Goals as goal

pub returns-clause-within : goal.returns-clause-within
returns-clause-within c =
    omega (
      arith,
      ap length c.run_of-2.ensures.left,
      left_shorter c.after-next.result.now,
      ap length c.after-next.ensures,
      length-drop c.in-Some.end c.run_of.result.1.now,
      ap length c.run_of.ensures.left,
      left_shorter c.args.text.now,
    )
