use Rattle.std.proofs.Common.{sym}
use Rattle.psu_nv.proofs.Finding.{got_length, got_kind}
use Rattle.psu_nv.proofs.contents.Contents.value_of.Goals as goal

pub returns-in-Some-clause-most : goal.returns-in-Some-clause-most
returns-in-Some-clause-most g c = got_length c.self.inside.files c.args.name.now _ c.self.invariant.files (sym c.in-Some.ensures)

pub returns-in-Some-clause-kind : goal.returns-in-Some-clause-kind
returns-in-Some-clause-kind g c = λ has. got_kind c.self.inside.files c.args.name.now _ c.self.invariant.files (sym c.in-Some.ensures)
