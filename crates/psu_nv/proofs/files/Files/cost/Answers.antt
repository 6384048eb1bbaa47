use Rattle.std.proofs.Common.{ap, length, arith}
use Rattle.psu_nv.proofs.Totals.{few_pages}
use Rattle.psu_nv.proofs.files.Files.cost.Goals as goal

pub returns-clause-most : goal.returns-clause-most
returns-clause-most g c = omega (arith, c.self.invariant.0, few_pages c.self.inside.items c.self.invariant.1, ap length c.pairs-count.ensures.all)
