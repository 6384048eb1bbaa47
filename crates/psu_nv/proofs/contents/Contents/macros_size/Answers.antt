use Rattle.std.proofs.Common.{arith}
use Rattle.psu_nv.proofs.Totals.{few_bytes}
use Rattle.psu_nv.proofs.contents.Contents.macros_size.Goals as goal

pub size-requires : goal.size-requires
size-requires g c = let s = c.self in omega (arith, few_bytes s.inside.macros s.invariant.macros, s.invariant.most_macros)

pub returns-clause-most : goal.returns-clause-most
returns-clause-most g c = let s = c.self in omega (arith, few_bytes s.inside.macros s.invariant.macros, s.invariant.most_macros, c.size.ensures)
