use Rattle.std.proofs.Common.{arith}
use Rattle.psu_nv.proofs.Totals.{few_registers}
use Rattle.psu_nv.proofs.registers.Registers.pages_with.Goals as goal

pub overflow_add-result : goal.overflow_add-result
overflow_add-result c = omega (arith, few_registers c.self.inside.all, c.self.invariant.1, c.self.invariant.2, c.register_pages-2.ensures.most)
