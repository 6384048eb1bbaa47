use Rattle.psu_nv.specs.Contents.{contents_of}
use Rattle.psu_nv.proofs.Keeping.{kept_event}
use Rattle.psu_nv.proofs.contents.Contents.set_event.Goals as goal

pub invariant_of-self : goal.invariant_of-self
invariant_of-self g c = kept_event (contents_of c.self.inside.registers c.self.inside.user c.self.inside.macros c.self.inside.enables c.self.inside.files c.self.inside.recall) _ c.args.bits c.self.invariant c.in-Some.is
